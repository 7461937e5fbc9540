-- A stream that isn't unobservable is a signed sum of measured streams.
use Rattle.std.proofs.Common.{◌≡◌, ◌≢◌, ◌∙◌, ℕ, suc, ◌+◌, ◌≤◌, ℤ, pos, negsuc, neg_ℤ, ◌+ℤ◌, ◌-ℤ◌, ◌*ℤ◌, ◌≤ℤ◌, Bool, true, false, ◌==◌, List, [], ◌∷◌, Option, Some, None, slice_get, IsSome, refl, sym, subst, ap, ap₂, inl, inr, arith}
use Rattle.std.specs.Prelude.{◌⊎◌, IfSome, option_map}
use Rattle.std.specs.List.{AllByRecursion, list_any}
use Rattle.std.proofs.lemmas.Bool.{cases_eq, eq-eqb, ne_eqb}
use Rattle.pb_fixed.specs.Sums.{item, AreDistinctBy}
use Rattle.pb_fixed.proofs.Lists.{AllByRecursion-map}
use Rattle.pb_fixed.proofs.Ring.{var, lit, plus, times, minus, less, ring}
use Rattle.pb_graph.specs.declared.records.Meas.{Meas}
use Rattle.pb_graph.specs.declared.records.Stream.{Stream}
use Rattle.pb_graph.specs.declared.records.Member.{Member}
use Rattle.pb_graph.specs.declared.records.Class.{Class}
use Rattle.pb_graph.specs.declared.records.Class.TheVariants.{Observable, Unobservable, Redundant, Nonredundant}
use Rattle.pb_graph.specs.declared.records.Classified.{Classified}
use Rattle.pb_graph.specs.declared.records.Witness.{Witness}
use Rattle.pb_graph.specs.declared.records.Witness.TheVariants.{Cut, Cycle}
use Rattle.pb_graph.specs.ProcessGraph.{ProcessGraph, IsProcessGraph}
use Rattle.pb_graph.specs.Walk.{is_in}
use Rattle.pb_graph.specs.Balance.{IsBalanced}
use Rattle.pb_graph.specs.Boundary.{sign_at, member_by, with_first, members_from}
use Rattle.pb_graph.specs.Certificates.{CutsOff, IsCertified, Shows}
use Rattle.pb_graph.specs.Squares.{Fractional, IsNoWorse, whole_flows}
use Rattle.pb_graph.specs.PricedSums.{signed_sum}
use Rattle.pb_graph.proofs.BalanceLaws.{boundary_sum}
use Rattle.pb_gap.specs.Gap.{gap_of}
use Rattle.pb_gap.specs.Bounds.{AreSigned, IsSigned, bounds_of}
use Rattle.pb_gap.specs.StreamBounds.{IsStreamWithin, sign_in, others_times, sum_for}
use Rattle.pb_gap.specs.Laws.{IsDualPair, SumsTo, StreamSumLaw, StreamLaw}
use Rattle.pb_gap.proofs.Enclosure.{enclosure}

abbrev IsSign : ℤ → Type 0
IsSign z = (z ≡ pos 1) ⊎ (z ≡ negsuc 0)

sign_square : (z : ℤ) → IsSign z → z *ℤ z ≡ pos 1
sign_square z h = elim h [ inl e ↦ ap (λ (x : ℤ). x *ℤ x) e | inr e ↦ ap (λ (x : ℤ). x *ℤ x) e ]

neg_sign : (z : ℤ) → IsSign z → IsSign (neg_ℤ z)
neg_sign z h = elim h [ inl e ↦ inr (ap neg_ℤ e) | inr e ↦ inl (ap neg_ℤ e) ]

sign_times : (x z : ℤ) → IsSign x → IsSign z → IsSign (x *ℤ z)
sign_times x z h k = elim h [
  | inl e ↦ elim k [ inl f ↦ inl (ap₂ (λ (a b : ℤ). a *ℤ b) e f) | inr f ↦ inr (ap₂ (λ (a b : ℤ). a *ℤ b) e f) ]
  | inr e ↦ elim k [ inl f ↦ inr (ap₂ (λ (a b : ℤ). a *ℤ b) e f) | inr f ↦ inl (ap₂ (λ (a b : ℤ). a *ℤ b) e f) ]
]

-- ---- the members of a boundary
-- a member is a stream, at its place or later, with a sign
record IsPlaced (ss : List Stream) (i : ℕ) (m : Member) : Type 0 where
  pub stream : Stream
  pub is : slice_get ss m.stream ≡ Some stream
  pub sign : IsSign m.sign
  pub late : i ≤ m.stream

later : (ss : List Stream) (i : ℕ) (m : Member) → IsPlaced ss (i + 1) m → IsPlaced ss i m
later ss i m h = let l = h.late in record { stream = h.stream; is = h.is; sign = h.sign; late = omega (arith, l) }

placed_first : (gs : List Stream) (i : ℕ) (s : Stream) (a b : Bool) (rest : List Member) → slice_get gs i ≡ Some s → AllByRecursion (IsPlaced gs i) rest
    → AllByRecursion (IsPlaced gs i) (with_first (member_by i (sign_at a b)) rest)
placed_first gs i s true true rest at h = h
placed_first gs i s false false rest at h = h
placed_first gs i s true false rest at h = (record { stream = s; is = at; sign = inr refl; late = omega arith }, h)
placed_first gs i s false true rest at h = (record { stream = s; is = at; sign = inl refl; late = omega arith }, h)

placed : (gs : List Stream) (side : List Bool) (i : ℕ) (ss : List Stream) → ((k : ℕ) → slice_get gs (i + k) ≡ slice_get ss k) → AllByRecursion (IsPlaced gs i) (members_from side i ss)
placed gs side i [] same = tt
placed gs side i (s ∷ ss) same =
    let here : slice_get gs i ≡ Some s = ap (slice_get gs) (omega arith) ∙ same 0 in
    let rest = placed gs side (i + 1) ss (λ k. ap (slice_get gs) (omega arith) ∙ same (suc k)) in
    placed_first gs i s (is_in side s.from) (is_in side s.to) (members_from side (i + 1) ss) here
    (AllByRecursion-map (IsPlaced gs (i + 1)) (IsPlaced gs i) (members_from side (i + 1) ss) (λ m p. later gs i m p) rest)

apart : (gs : List Stream) (i : ℕ) (m : Member) → IsPlaced gs (i + 1) m → m.stream ≢ i
apart gs i m h e = let l = h.late in omega (arith, l, e)

distinct_first : (gs : List Stream) (i : ℕ) (a b : Bool) (rest : List Member) → AllByRecursion (IsPlaced gs (i + 1)) rest → AreDistinctBy (λ (m : Member). m.stream) rest
    → AreDistinctBy (λ (m : Member). m.stream) (with_first (member_by i (sign_at a b)) rest)
distinct_first gs i true true rest p h = h
distinct_first gs i false false rest p h = h
distinct_first gs i true false rest p h = (AllByRecursion-map (IsPlaced gs (i + 1)) (λ m. m.stream ≢ i) rest (λ m q. apart gs i m q) p, h)
distinct_first gs i false true rest p h = (AllByRecursion-map (IsPlaced gs (i + 1)) (λ m. m.stream ≢ i) rest (λ m q. apart gs i m q) p, h)

distinct : (gs : List Stream) (side : List Bool) (i : ℕ) (ss : List Stream) → ((k : ℕ) → slice_get gs (i + k) ≡ slice_get ss k) → AreDistinctBy (λ (m : Member). m.stream) (members_from side i ss)
distinct gs side i [] same = tt
distinct gs side i (s ∷ ss) same =
    let next : (k : ℕ) → slice_get gs ((i + 1) + k) ≡ slice_get ss k = λ k. ap (slice_get gs) (omega arith) ∙ same (suc k) in
    distinct_first gs i (is_in side s.from) (is_in side s.to) (members_from side (i + 1) ss) (placed gs side (i + 1) ss next) (distinct gs side (i + 1) ss next)

-- ---- the other members of a cut
meas_of : (o : Option Meas) → IsSome o → (m : Meas) × (o ≡ Some m)
meas_of None h = cc h
meas_of (Some m) h = (m, refl)

-- what the other members of a cut have
abbrev IsOther : List Stream → ℕ → Member → Type 0
IsOther ss j m = m.stream ≢ j → (s : Stream) → slice_get ss m.stream ≡ Some s → IsSome s.meas

others_signed : (g : ProcessGraph) (j : ℕ) (z : ℤ) (ms : List Member) → IsSign z → AllByRecursion (IsPlaced g.streams 0) ms → AllByRecursion (IsOther g.streams j) ms
    → AllByRecursion (IsSigned g) (others_times j z ms)
others_signed g j z [] sign p o = tt
others_signed g j z (m ∷ ms) sign p o = elim (cases_eq m.stream j) [
  | inl e ↦ rw (eq-eqb m.stream j e) (others_signed g j z ms sign p.1 o.1)
  | inr ne ↦
      let (meas, measured) = meas_of p.0.stream.meas (o.0 ne p.0.stream p.0.is) in
      rw (ne_eqb m.stream j ne) (
        record { stream = p.0.stream; meas = meas; is = p.0.is; measured = measured; sign = sign_times m.sign z p.0.sign sign },
        others_signed g j z ms sign p.1 o.1,
      )
]

others_apart : (j n : ℕ) (z : ℤ) (ms : List Member) → AllByRecursion (λ (m : Member). m.stream ≢ n) ms → AllByRecursion (λ (m : Member). m.stream ≢ n) (others_times j z ms)
others_apart j n z [] h = tt
others_apart j n z (m ∷ ms) h = elim (cases_eq m.stream j) [
  | inl e ↦ rw (eq-eqb m.stream j e) (others_apart j n z ms h.1)
  | inr ne ↦ rw (ne_eqb m.stream j ne) (h.0, others_apart j n z ms h.1)
]

others_distinct : (j : ℕ) (z : ℤ) (ms : List Member) → AreDistinctBy (λ (m : Member). m.stream) ms → AreDistinctBy (λ (m : Member). m.stream) (others_times j z ms)
others_distinct j z [] h = tt
others_distinct j z (m ∷ ms) h = elim (cases_eq m.stream j) [
  | inl e ↦ rw (eq-eqb m.stream j e) (others_distinct j z ms h.1)
  | inr ne ↦ rw (ne_eqb m.stream j ne) (others_apart j m.stream z ms h.0, others_distinct j z ms h.1)
]

sign_is : (ss : List Stream) (j : ℕ) (ms : List Member) → AllByRecursion (IsPlaced ss 0) ms → list_any (λ (m : Member). m.stream == j) ms ≡ true → IsSign (sign_in j ms)
sign_is ss j [] p has = cc has
sign_is ss j (m ∷ ms) p has = elim (cases_eq m.stream j) [
  | inl e ↦ rw (eq-eqb m.stream j e) p.0.sign
  | inr ne ↦ rw (ne_eqb m.stream j ne) (sign_is ss j ms p.1 (rw (ne_eqb m.stream j ne) at has))
]

-- the sum of the other members
one_more : (z s x r t : ℤ) → t ≡ z *ℤ r → ((s *ℤ z) *ℤ x) +ℤ t ≡ z *ℤ ((s *ℤ x) +ℤ r)
one_more z s x r t e =
    ap (λ (y : ℤ). ((s *ℤ z) *ℤ x) +ℤ y) e
    ∙ ring (z ∷ s ∷ x ∷ r ∷ []) (plus (times (times (var 1) (var 0)) (var 2)) (times (var 0) (var 3))) (times (var 0) (plus (times (var 1) (var 2)) (var 3))) refl

none_left : (j : ℕ) (z : ℤ) (ms : List Member) (xs : List ℤ) → AllByRecursion (λ (m : Member). m.stream ≢ j) ms → signed_sum (others_times j z ms) xs ≡ z *ℤ signed_sum ms xs
none_left j z [] xs h = ring (z ∷ []) (lit (pos 0)) (times (var 0) (lit (pos 0))) refl
none_left j z (m ∷ ms) xs h = rw (ne_eqb m.stream j h.0) (one_more z m.sign (item xs m.stream) (signed_sum ms xs) (signed_sum (others_times j z ms) xs) (none_left j z ms xs h.1))

left_out : (z s x r t : ℤ) → t ≡ z *ℤ r → t ≡ z *ℤ (((s *ℤ x) +ℤ r) -ℤ (s *ℤ x))
left_out z s x r t e = e ∙ ring (z ∷ s ∷ x ∷ r ∷ []) (times (var 0) (var 3)) (times (var 0) (less (plus (times (var 1) (var 2)) (var 3)) (times (var 1) (var 2)))) refl

kept : (z s x r t w : ℤ) → t ≡ z *ℤ (r -ℤ w) → ((s *ℤ z) *ℤ x) +ℤ t ≡ z *ℤ (((s *ℤ x) +ℤ r) -ℤ w)
kept z s x r t w e =
    ap (λ (y : ℤ). ((s *ℤ z) *ℤ x) +ℤ y) e
    ∙ ring (z ∷ s ∷ x ∷ r ∷ w ∷ []) (plus (times (times (var 1) (var 0)) (var 2)) (times (var 0) (less (var 3) (var 4)))) (times (var 0) (less (plus (times (var 1) (var 2)) (var 3)) (var 4))) refl

others_sum : (j : ℕ) (z : ℤ) (ms : List Member) (xs : List ℤ) → AreDistinctBy (λ (m : Member). m.stream) ms
    → signed_sum (others_times j z ms) xs ≡ z *ℤ (signed_sum ms xs -ℤ (sign_in j ms *ℤ item xs j))
others_sum j z [] xs h = ring (z ∷ item xs j ∷ []) (lit (pos 0)) (times (var 0) (less (lit (pos 0)) (times (lit (pos 0)) (var 1)))) refl
others_sum j z (m ∷ ms) xs h = elim (cases_eq m.stream j) [
  | inl e ↦
      rw (eq-eqb m.stream j e)
      (left_out z m.sign (item xs m.stream) (signed_sum ms xs) (signed_sum (others_times j z ms) xs)
      (none_left j z ms xs (subst (λ (n : ℕ). AllByRecursion (λ (m : Member). m.stream ≢ n) ms) e h.0))
      ∙ ap (λ (n : ℕ). z *ℤ (signed_sum (m ∷ ms) xs -ℤ (m.sign *ℤ item xs n))) e)
  | inr ne ↦
      rw (ne_eqb m.stream j ne)
      (kept z m.sign (item xs m.stream) (signed_sum ms xs) (signed_sum (others_times j z ms) xs) (sign_in j ms *ℤ item xs j) (others_sum j z ms xs h.1))
]

found : (s x sum : ℤ) → s *ℤ s ≡ pos 1 → sum ≡ pos 0 → neg_ℤ s *ℤ (sum -ℤ (s *ℤ x)) ≡ x
found s x sum h none =
    ap (λ (y : ℤ). neg_ℤ s *ℤ (y -ℤ (s *ℤ x))) none
    ∙ ring (s ∷ x ∷ []) (times (minus (var 0)) (less (lit (pos 0)) (times (var 0) (var 1)))) (times (times (var 0) (var 0)) (var 1)) refl
    ∙ ap (λ (y : ℤ). y *ℤ x) h
    ∙ ring (x ∷ []) (times (lit (pos 1)) (var 0)) (var 0) refl

-- ---- one stream
-- the other members of a cut are measured, each at most once
others_measured : (g : ProcessGraph) (j : ℕ) (side : List Bool) (members : List Member) → CutsOff g j side members → AreSigned g (others_times j (neg_ℤ (sign_in j members)) members)
others_measured g j side members cuts =
    let same : (k : ℕ) → slice_get g.streams (0 + k) ≡ slice_get g.streams k = λ k. ap (slice_get g.streams) (omega arith) in
    let places : AllByRecursion (IsPlaced g.streams 0) members = subst (AllByRecursion (IsPlaced g.streams 0)) (sym cuts.cut.boundary) (placed g.streams side 0 g.streams same) in
    let apart : AreDistinctBy (λ (m : Member). m.stream) members = subst (AreDistinctBy (λ (m : Member). m.stream)) (sym cuts.cut.boundary) (distinct g.streams side 0 g.streams same) in
    let sign = sign_is g.streams j members places cuts.has in
    record {
      each = others_signed g j (neg_ℤ (sign_in j members)) members (neg_sign (sign_in j members) sign) places cuts.others;
      distinct = others_distinct j (neg_ℤ (sign_in j members)) members apart;
    }

observed : (g : ProcessGraph) (j : ℕ) (side : List Bool) (members : List Member) → IsProcessGraph g → CutsOff g j side members → SumsTo g j (others_times j (neg_ℤ (sign_in j members)) members)
observed g j side members is cuts =
    let same : (k : ℕ) → slice_get g.streams (0 + k) ≡ slice_get g.streams k = λ k. ap (slice_get g.streams) (omega arith) in
    let places : AllByRecursion (IsPlaced g.streams 0) members = subst (AllByRecursion (IsPlaced g.streams 0)) (sym cuts.cut.boundary) (placed g.streams side 0 g.streams same) in
    let apart : AreDistinctBy (λ (m : Member). m.stream) members = subst (AreDistinctBy (λ (m : Member). m.stream)) (sym cuts.cut.boundary) (distinct g.streams side 0 g.streams same) in
    let sign = sign_is g.streams j members places cuts.has in
    record {
      signed = others_measured g j side members cuts;
      sum = λ xs even.
          others_sum j (neg_ℤ (sign_in j members)) members xs apart
          ∙ found (sign_in j members) (item xs j) (signed_sum members xs) (sign_square (sign_in j members) sign) (boundary_sum g side members xs is cuts.cut even);
    }

measured : (g : ProcessGraph) (j : ℕ) (s : Stream) → slice_get g.streams j ≡ Some s → IsSome s.meas → SumsTo g j (record { stream = j; sign = pos 1 } ∷ [])
measured g j s at some =
    let (meas, is) = meas_of s.meas some in
    record {
      signed = record { each = (record { stream = s; meas = meas; is = at; measured = is; sign = inl refl }, tt); distinct = (tt, tt) };
      sum = λ xs even. ring (item xs j ∷ []) (plus (times (lit (pos 1)) (var 0)) (lit (pos 0))) (var 0) refl;
    }

by_class : (g : ProcessGraph) (j : ℕ) (s : Stream) (class : Class) (witness : Witness) → IsProcessGraph g → slice_get g.streams j ≡ Some s → Shows g j s class witness
    → IfSome (sum_for j class witness) (SumsTo g j)
by_class g j s Redundant (Cut side members) is at h = measured g j s at h.0
by_class g j s Nonredundant (Cycle steps) is at h = measured g j s at h.0
by_class g j s Observable (Cut side members) is at h = observed g j side members is h.1
by_class g j s Redundant (Cycle steps) is at h = absurd h
by_class g j s Nonredundant (Cut side members) is at h = absurd h
by_class g j s Observable (Cycle steps) is at h = tt
by_class g j s Unobservable (Cut side members) is at h = tt
by_class g j s Unobservable (Cycle steps) is at h = tt

pub stream_sum : StreamSumLaw
stream_sum g j c is (s, at, h) = by_class g j s c.class c.witness is at h

-- the members of the sum are measured, each at most once, whatever the graph
signed_by : (g : ProcessGraph) (j : ℕ) (s : Stream) (class : Class) (witness : Witness) → slice_get g.streams j ≡ Some s → Shows g j s class witness → IfSome (sum_for j class witness) (AreSigned g)
signed_by g j s Redundant (Cut side members) at h = (measured g j s at h.0).signed
signed_by g j s Nonredundant (Cycle steps) at h = (measured g j s at h.0).signed
signed_by g j s Observable (Cut side members) at h = others_measured g j side members h.1
signed_by g j s Redundant (Cycle steps) at h = absurd h
signed_by g j s Nonredundant (Cut side members) at h = absurd h
signed_by g j s Observable (Cycle steps) at h = tt
signed_by g j s Unobservable (Cut side members) at h = tt
signed_by g j s Unobservable (Cycle steps) at h = tt

pub stream_signed : (g : ProcessGraph) (j : ℕ) (c : Classified) → IsCertified g j c → IfSome (sum_for j c.class c.witness) (AreSigned g)
stream_signed g j c (s, at, h) = signed_by g j s c.class c.witness at h

within : (g : ProcessGraph) (price : ℕ → ℤ) (ps : List ℤ) (x : Fractional) (j : ℕ) (o : Option (List Member)) → IsDualPair g price x → IsBalanced g ps → IsNoWorse g x (whole_flows ps)
    → IfSome o (SumsTo g j) → IfSome (option_map (bounds_of price g.streams (gap_of price g.streams ps)) o) (IsStreamWithin x j)
within g price ps x j None h even better sums = tt
within g price ps x j (Some members) h even better sums =
    let is = enclosure g price ps x members h even better sums.signed in
    let bounds = bounds_of price g.streams (gap_of price g.streams ps) members in
    let q = x.denominator in
    let e = sums.sum x.numerators h.balanced.balanced in
    record { from = subst (λ (z : ℤ). (q *ℤ bounds.lo) ≤ℤ z) e is.from; to = subst (λ (z : ℤ). z ≤ℤ (q *ℤ bounds.hi)) e is.to }

pub stream_within : StreamLaw
stream_within g price ps x j c h even better shown = within g price ps x j (sum_for j c.class c.witness) h even better (stream_sum g j c h.limits shown)
