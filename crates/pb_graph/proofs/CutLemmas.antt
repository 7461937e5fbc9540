-- A side and its boundary: the price of a node is 1 in the side and 0 outside.
use Rattle.std.proofs.Common.{◌≡◌, ◌≢◌, ◌∙◌, ℕ, zero, suc, ◌+◌, ℤ, pos, negsuc, ◌+ℤ◌, ◌-ℤ◌, ◌*ℤ◌, Bool, true, false, cond, ◌==◌, List, [], ◌∷◌, length, Option, Some, None, slice_get, IsSome, refl, sym, ap, ap₂, subst, inl, inr, arith}
use Rattle.std.specs.List.{AllByRecursion, list_any}
use Rattle.std.proofs.lemmas.Bool.{eqb-true, or_cases}
use Rattle.std.proofs.lemmas.Int.{ints}
use Rattle.pb_fixed.specs.Sums.{item}
use Rattle.pb_fixed.proofs.RingLaws.{zero_mul}
use Rattle.pb_graph.specs.declared.records.Stream.{Stream}
use Rattle.pb_graph.specs.declared.records.Member.{Member}
use Rattle.pb_graph.specs.ProcessGraph.{ProcessGraph, IsProcessGraph}
use Rattle.pb_graph.specs.Walk.{is_in}
use Rattle.pb_graph.specs.Boundary.{sign_at, member_by, member_at, with_first, members_from, IsCut}
use Rattle.pb_graph.specs.Balance.{IsBalanced}
use Rattle.pb_graph.specs.Classes.{IsDetermined}
use Rattle.pb_graph.specs.Certificates.{CutsOff}
use Rattle.pb_graph.proofs.WalkLemmas.{some_same}
use Rattle.pb_graph.specs.PricedSums.{priced_streams, signed_sum}
use Rattle.pb_graph.proofs.PriceLemmas.{balanced_sum}

-- the price of a node: 1 in the side, 0 outside
abbrev pub unit_price : Bool → ℤ
unit_price within = cond within (pos 1) (pos 0)

abbrev pub side_price : List Bool → ℕ → ℤ
side_price side n = unit_price (is_in side n)

-- ---- the signed sum over a boundary
first_sum : (j : ℕ) (a b : Bool) (rest : List Member) (ys : List ℤ)
    → signed_sum (with_first (member_by j (sign_at a b)) rest) ys ≡ ((unit_price b -ℤ unit_price a) *ℤ item ys j) +ℤ signed_sum rest ys
first_sum j true true rest ys = omega (arith, ints)
first_sum j true false rest ys = omega (arith, ints)
first_sum j false true rest ys = omega (arith, ints)
first_sum j false false rest ys = omega (arith, ints)

members_sum : (side : List Bool) (j : ℕ) (ss : List Stream) (xs ys : List ℤ) → length xs ≡ length ss → ((k : ℕ) → item ys (j + k) ≡ item xs k)
    → signed_sum (members_from side j ss) ys ≡ priced_streams (side_price side) ss xs
members_sum side j [] xs ys each is = refl
members_sum side j (s ∷ ss) [] ys each is = absurd (omega (arith, each))
members_sum side j (s ∷ ss) (x ∷ xs) ys each is =
    let here : item ys j ≡ x = ap (item ys) (omega arith) ∙ is 0 in
    let later : (k : ℕ) → item ys ((j + 1) + k) ≡ item xs k = λ k. ap (item ys) (omega arith) ∙ is (suc k) in
    first_sum j (is_in side s.from) (is_in side s.to) (members_from side (j + 1) ss) ys
    ∙ ap₂ (λ (y z : ℤ). ((side_price side s.to -ℤ side_price side s.from) *ℤ y) +ℤ z) here (members_sum side (j + 1) ss xs ys (omega (arith, each)) later)

pub boundary_sum : (g : ProcessGraph) (side : List Bool) (members : List Member) (xs : List ℤ) → IsProcessGraph g → IsCut g side members → IsBalanced g xs
    → signed_sum members xs ≡ pos 0
boundary_sum g side members xs is cut balanced =
    ap (λ (ms : List Member). signed_sum ms xs) cut.boundary
    ∙ members_sum side 0 g.streams xs xs balanced.each (λ k. ap (item xs) (omega arith))
    ∙ balanced_sum g (side_price side) xs is balanced

-- ---- the members of a boundary
pub member_stream : (j : ℕ) (o : Option ℤ) (m : Member) → member_by j o ≡ Some m → m.stream ≡ j
member_stream j None m e = cc e
member_stream j (Some z) m e = ap (λ (n : Member). n.stream) (sym (some_same e))

rest_have : (P : Member → Type 0) (o : Option Member) (rest : List Member) → AllByRecursion P (with_first o rest) → AllByRecursion P rest
rest_have P None rest all = all
rest_have P (Some m) rest all = all.1

-- a stream with one end in the side is a member, and has what each member has
pub member_has : (P : Member → Type 0) (side : List Bool) (i n k : ℕ) (ss : List Stream) (s : Stream) (m : Member) → AllByRecursion P (members_from side i ss)
    → slice_get ss k ≡ Some s → n ≡ i + k → member_at side n s ≡ Some m → P m
member_has P side i n k [] s m all at e is = cc at
member_has P side i n zero (t ∷ ss) s m all at e is =
    let first : member_at side i t ≡ Some m = ap₂ (member_at side) (omega (arith, e)) (some_same at) ∙ is in
    let whole : AllByRecursion P (with_first (Some m) (members_from side (i + 1) ss)) = subst (λ (o : Option Member). AllByRecursion P (with_first o (members_from side (i + 1) ss))) first all in
    whole.0
member_has P side i n (suc k) (t ∷ ss) s m all at e is =
    member_has P side (i + 1) n k ss s m (rest_have P (member_at side i t) (members_from side (i + 1) ss) all) at (omega (arith, e)) is

-- a member is a stream with one end in the side
pub record IsMemberAt (side : List Bool) (i : ℕ) (ss : List Stream) (q : Member → Bool) : Type 0 where
  pub k : ℕ
  pub s : Stream
  pub m : Member
  pub at : slice_get ss k ≡ Some s
  pub is : member_at side (i + k) s ≡ Some m
  pub found : q m ≡ true

later_member : (side : List Bool) (i : ℕ) (t : Stream) (ss : List Stream) (q : Member → Bool) → IsMemberAt side (i + 1) ss q → IsMemberAt side i (t ∷ ss) q
later_member side i t ss q r = record {
  k = suc r.k;
  s = r.s;
  m = r.m;
  at = r.at;
  is = ap (λ (n : ℕ). member_at side n r.s) (omega arith) ∙ r.is;
  found = r.found;
}

pub member_from : (side : List Bool) (i : ℕ) (ss : List Stream) (q : Member → Bool) → list_any q (members_from side i ss) ≡ true → IsMemberAt side i ss q
member_from side i [] q some = cc some
member_from side i (t ∷ ss) q some =
    elim (member_at side i t) as (λ (o : Option Member). member_at side i t ≡ o → list_any q (with_first o (members_from side (i + 1) ss)) ≡ true → IsMemberAt side i (t ∷ ss) q) [
      | None ↦ λ none any. later_member side i t ss q (member_from side (i + 1) ss q any)
      | Some m ↦ λ is any. elim (or_cases (q m) (list_any q (members_from side (i + 1) ss)) any) [
        | inl here ↦ record { k = 0; s = t; m = m; at = refl; is = ap (λ (n : ℕ). member_at side n t) (omega arith) ∙ is; found = here }
        | inr later ↦ later_member side i t ss q (member_from side (i + 1) ss q later)
      ]
    ] refl some

-- ---- two vectors with one sum, which agree on all members but one
cancel_left : (a b c d : ℤ) → a +ℤ b ≡ c +ℤ d → a ≡ c → b ≡ d
cancel_left a b c d e h = omega (arith, ints, e, h)

cancel_right : (a b c d : ℤ) → a +ℤ b ≡ c +ℤ d → b ≡ d → a ≡ c
cancel_right a b c d e h = omega (arith, ints, e, h)

-- the rise of the price along a stream
abbrev rise : (ℕ → ℤ) → Stream → ℤ
rise p s = p s.to -ℤ p s.from

-- the terms of the streams of some places are equal for both vectors
abbrev SameAt : (ℕ → ℤ) → List Stream → List ℤ → List ℤ → (ℕ → Type 0) → Type 0
SameAt p ss xs ys at = (k : ℕ) (s : Stream) → slice_get ss k ≡ Some s → at k → rise p s *ℤ item xs k ≡ rise p s *ℤ item ys k

same_sum : (p : ℕ → ℤ) (ss : List Stream) (xs ys : List ℤ) → length xs ≡ length ss → length ys ≡ length ss → SameAt p ss xs ys (λ k. Unit {0})
    → priced_streams p ss xs ≡ priced_streams p ss ys
same_sum p [] xs ys lx ly same = refl
same_sum p (t ∷ ss) [] ys lx ly same = absurd (omega (arith, lx))
same_sum p (t ∷ ss) (x ∷ xs) [] lx ly same = absurd (omega (arith, ly))
same_sum p (t ∷ ss) (x ∷ xs) (y ∷ ys) lx ly same =
    ap₂ (λ (a b : ℤ). a +ℤ b) (same zero t refl tt) (same_sum p ss xs ys (omega (arith, lx)) (omega (arith, ly)) (λ k s at u. same (suc k) s at u))

-- so the term of the one left out is equal too
one_term : (p : ℕ → ℤ) (ss : List Stream) (xs ys : List ℤ) (j : ℕ) (s : Stream) → length xs ≡ length ss → length ys ≡ length ss → SameAt p ss xs ys (λ k. k ≢ j)
    → slice_get ss j ≡ Some s → priced_streams p ss xs ≡ priced_streams p ss ys → rise p s *ℤ item xs j ≡ rise p s *ℤ item ys j
one_term p [] xs ys j s lx ly same at e = cc at
one_term p (t ∷ ss) [] ys j s lx ly same at e = absurd (omega (arith, lx))
one_term p (t ∷ ss) (x ∷ xs) [] j s lx ly same at e = absurd (omega (arith, ly))
one_term p (t ∷ ss) (x ∷ xs) (y ∷ ys) zero s lx ly same at e =
    let rest = same_sum p ss xs ys (omega (arith, lx)) (omega (arith, ly)) (λ k u f v. same (suc k) u f (λ z. absurd (omega (arith, z)))) in
    subst (λ (u : Stream). rise p u *ℤ x ≡ rise p u *ℤ y) (some_same at) (cancel_right (rise p t *ℤ x) (priced_streams p ss xs) (rise p t *ℤ y) (priced_streams p ss ys) e rest)
one_term p (t ∷ ss) (x ∷ xs) (y ∷ ys) (suc j) s lx ly same at e =
    let first = same zero t refl (λ z. absurd (omega (arith, z))) in
    let rest = cancel_left (rise p t *ℤ x) (priced_streams p ss xs) (rise p t *ℤ y) (priced_streams p ss ys) e first in
    one_term p ss xs ys j s (omega (arith, lx)) (omega (arith, ly)) (λ k u f ne. same (suc k) u f (λ z. ne (omega (arith, z)))) at rest

-- the price rises by 1 or -1 along a member, and not at all along another stream
unit_rise : (k : ℕ) (a b : Bool) (m : Member) (x y : ℤ) → member_by k (sign_at a b) ≡ Some m
    → (unit_price b -ℤ unit_price a) *ℤ x ≡ (unit_price b -ℤ unit_price a) *ℤ y → x ≡ y
unit_rise k true true m x y is e = cc is
unit_rise k true false m x y is e = omega (arith, ints, e)
unit_rise k false true m x y is e = omega (arith, ints, e)
unit_rise k false false m x y is e = cc is

no_rise : (k : ℕ) (a b : Bool) (x y : ℤ) → ((m : Member) → member_by k (sign_at a b) ≡ Some m → x ≡ y)
    → (unit_price b -ℤ unit_price a) *ℤ x ≡ (unit_price b -ℤ unit_price a) *ℤ y
no_rise k true true x y same = zero_mul x ∙ sym (zero_mul y)
no_rise k true false x y same = ap (λ (z : ℤ). negsuc 0 *ℤ z) (same (record { stream = k; sign = negsuc 0 }) refl)
no_rise k false true x y same = ap (λ (z : ℤ). pos 1 *ℤ z) (same (record { stream = k; sign = pos 1 }) refl)
no_rise k false false x y same = zero_mul x ∙ sym (zero_mul y)

-- what the others of a cut have, a stream with one end in the side has
pub others_have : (g : ProcessGraph) (j k : ℕ) (side : List Bool) (members : List Member) (s : Stream) (m : Member) → CutsOff g j side members
    → slice_get g.streams k ≡ Some s → k ≢ j → member_at side k s ≡ Some m → IsSome s.meas
others_have g j k side members s m cuts at other is =
    let P : Member → Type 0 = λ n. n.stream ≢ j → (u : Stream) → slice_get g.streams n.stream ≡ Some u → IsSome u.meas in
    let same : m.stream ≡ k = member_stream k (sign_at (is_in side s.from) (is_in side s.to)) m is in
    let has : P m = member_has P side 0 k k g.streams s m (subst (AllByRecursion P) cuts.cut.boundary cuts.others) at (omega arith) is in
    has (λ z. other (sym same ∙ z)) s (ap (slice_get g.streams) same ∙ at)

pub cut_determines : (g : ProcessGraph) (j : ℕ) (side : List Bool) (members : List Member) → IsProcessGraph g → CutsOff g j side members → IsDetermined g j
cut_determines g j side members is cuts xs ys bx by_ agree =
    let p = side_price side in
    let here = member_from side 0 g.streams (λ m. m.stream == j) (subst (λ (ms : List Member). list_any (λ (m : Member). m.stream == j) ms ≡ true) cuts.cut.boundary cuts.has) in
    let s = here.s in
    let place : here.k ≡ j = sym (member_stream (0 + here.k) (sign_at (is_in side s.from) (is_in side s.to)) here.m here.is ∙ omega arith) ∙ eqb-true here.m.stream j here.found in
    let same : SameAt p g.streams xs ys (λ k. k ≢ j) = λ k t at other.
    no_rise k (is_in side t.from) (is_in side t.to) (item xs k) (item ys k) (λ m crosses. agree k t at other (others_have g j k side members t m cuts at other crosses)) in
    let e : priced_streams p g.streams xs ≡ priced_streams p g.streams ys = balanced_sum g p xs is bx ∙ sym (balanced_sum g p ys is by_) in
    let at : slice_get g.streams j ≡ Some s = ap (slice_get g.streams) (sym place) ∙ here.at in
    unit_rise (0 + here.k) (is_in side s.from) (is_in side s.to) here.m (item xs j) (item ys j) here.is (one_term p g.streams xs ys j s bx.each by_.each same at e)
