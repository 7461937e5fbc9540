-- The order by falling cost, and the advised choice: nodes that preceding streams join are joined by the preceding streams that stay
-- unmeasured; the streams that stay unmeasured have no cycle; there is one such choice.
use Rattle.std.proofs.Common.{◌≡◌, ◌≢◌, ◌∙◌, ◌⊎◌, ℕ, zero, suc, ◌+◌, ◌<◌, ◌≤◌, ℤ, ◌<ℤ◌, ◌≤ℤ◌, int_lt, int_le, nat_lt, Bool, true, false, not, ◌&&◌, ◌||◌, ◌==◌, List, [], ◌∷◌, length, Some, None, slice_get, get_or, ap, ap₂, sym, refl, subst, inl, inr, arith, if◌then◌else◌}
use Rattle.std.proofs.lemmas.Bool.{cases_Bool, cases_eq, cases_lt, and_parts, and_from, or_left, or_right, or_cases, not-true, not_from_false, eq-eqb, eqb-true, ltb-true, lt-ltb}
use Rattle.std.proofs.lemmas.Int.{ints}
use Rattle.std.proofs.lemmas.List.{ext_get_or}
use Rattle.std.proofs.lemmas.Option.{slice_get_within, slice_get-get_or, get_or_from_slice_get}
use Rattle.pb_fixed.specs.Sums.{item}
use Rattle.pb_graph.specs.declared.records.Stream.{Stream}
use Rattle.pb_graph.specs.declared.records.Step.{Step}
use Rattle.pb_graph.specs.ProcessGraph.{ProcessGraph, is_measured}
use Rattle.pb_graph.specs.Walk.{ends_of, unmeasured, Walks, Reaches}
use Rattle.pb_graph.proofs.WalkLemmas.{some_same, ends_is, stream_of, reach_one, reach_both, reach_more}
use Rattle.pb_graph.proofs.ReachLemmas.{IsPartBut}
use Rattle.pb_forest.specs.Laws.{IsAcyclic}
use Rattle.pb_forest.proofs.ForestLaws.{along_reach}
use Rattle.pb_advise.specs.Choice.{stays_unmeasured}
use Rattle.pb_advise.specs.Advice.{precedes, IsAdvisedChoice}
use Rattle.pb_advise.proofs.AcyclicLemmas.{acyclic_part, acyclic_more}
use Rattle.pb_advise.proofs.LeastLemmas.{le_is}

-- ---- the order of two streams, by their costs and places
abbrev outranks : ℤ → ℤ → ℕ → ℕ → Bool
outranks c d j k = int_lt c d || (int_le c d && nat_lt k j)

abbrev pub Outranks : ℤ → ℤ → ℕ → ℕ → Type 0
Outranks c d j k = (c <ℤ d) ⊎ ((c ≤ℤ d) × (k < j))

lt_says : (c d : ℤ) → int_lt c d ≡ true → c <ℤ d
lt_says c d h = omega (arith, ints, h)

le_says : (c d : ℤ) → int_le c d ≡ true → c ≤ℤ d
le_says c d h = omega (arith, ints, h)

lt_is : (c d : ℤ) → c <ℤ d → int_lt c d ≡ true
lt_is c d h = elim (cases_Bool (int_lt c d)) [
  | inl on ↦ on
  | inr off ↦ absurd (omega (arith, ints, h, off))
]

outranks_says : (c d : ℤ) (j k : ℕ) → outranks c d j k ≡ true → Outranks c d j k
outranks_says c d j k h = elim (or_cases (int_lt c d) (int_le c d && nat_lt k j) h) [
  | inl more ↦ inl (lt_says c d more)
  | inr both ↦ let parts = and_parts (int_le c d) (nat_lt k j) both in inr (le_says c d parts.0, ltb-true k j parts.1)
]

outranks_is : (c d : ℤ) (j k : ℕ) → Outranks c d j k → outranks c d j k ≡ true
outranks_is c d j k h = elim h [
  | inl more ↦ or_left (int_lt c d) (int_le c d && nat_lt k j) (lt_is c d more)
  | inr both ↦ or_right (int_lt c d) (int_le c d && nat_lt k j) (and_from (int_le c d) (nat_lt k j) (le_is c d both.0) (lt-ltb k j both.1))
]

outranks_trans : (c d e : ℤ) (j k n : ℕ) → Outranks c d j k → Outranks d e k n → Outranks c e j n
outranks_trans c d e j k n x y = elim x [
  | inl a ↦ elim y [
    | inl b ↦ inl (omega (arith, ints, a, b))
    | inr b ↦ let le = b.0 in inl (omega (arith, ints, a, le))
  ]
  | inr a ↦ let le = a.0 in let lt = a.1 in elim y [
    | inl b ↦ inl (omega (arith, ints, le, b))
    | inr b ↦ let le2 = b.0 in let lt2 = b.1 in inr (omega (arith, ints, le, le2), omega (arith, lt, lt2))
  ]
]

outranks_not : (c : ℤ) (j : ℕ) → Outranks c c j j → ⊥
outranks_not c j x = elim x [
  | inl a ↦ omega (arith, ints, a)
  | inr a ↦ let lt = a.1 in omega (arith, lt)
]

outranks_one : (c d : ℤ) (j k : ℕ) → j ≢ k → Outranks c d j k ⊎ Outranks d c k j
outranks_one c d j k ne = elim (cases_Bool (int_lt c d)) [
  | inl more ↦ inl (inl (lt_says c d more))
  | inr not_more ↦ elim (cases_Bool (int_lt d c)) [
    | inl less ↦ inr (inl (lt_says d c less))
    | inr not_less ↦ elim (cases_lt k j) [
      | inl lt ↦ inl (inr (omega (arith, ints, not_more, not_less), lt))
      | inr ge ↦ inr (inr (omega (arith, ints, not_more, not_less), omega (arith, ge, ne)))
    ]
  ]
]

-- ---- the same of streams
pub precedes_says : (costs : List ℤ) (j k : ℕ) (t : Stream) → precedes costs j k t ≡ true → (unmeasured k t ≡ true) × Outranks (item costs j) (item costs k) j k
precedes_says costs j k t h =
    let parts = and_parts (unmeasured k t) (outranks (item costs j) (item costs k) j k) h in
    (parts.0, outranks_says (item costs j) (item costs k) j k parts.1)

pub precedes_is : (costs : List ℤ) (j k : ℕ) (t : Stream) → unmeasured k t ≡ true → Outranks (item costs j) (item costs k) j k → precedes costs j k t ≡ true
precedes_is costs j k t bare h = and_from (unmeasured k t) (outranks (item costs j) (item costs k) j k) bare (outranks_is (item costs j) (item costs k) j k h)

precedes_trans : (costs : List ℤ) (j k n : ℕ) (t u : Stream) → precedes costs j k t ≡ true → precedes costs k n u ≡ true → precedes costs j n u ≡ true
precedes_trans costs j k n t u x y =
    let a = precedes_says costs j k t x in
    let b = precedes_says costs k n u y in
    precedes_is costs j n u b.0 (outranks_trans (item costs j) (item costs k) (item costs n) j k n a.1 b.1)

pub precedes_costs : (costs : List ℤ) (j k : ℕ) (t : Stream) → precedes costs j k t ≡ true → item costs j ≤ℤ item costs k
precedes_costs costs j k t h = elim (precedes_says costs j k t h).1 [
  | inl a ↦ omega (arith, ints, a)
  | inr a ↦ a.0
]

-- ---- a stream's rank: how many come before it
abbrev count_of : (ℕ → Stream → Bool) → ℕ → List Stream → ℕ
count_of p i [] = 0
count_of p i (s ∷ ss) = (if p i s then 1 else 0) + count_of p (i + 1) ss

one_more : (a b : Bool) (m n : ℕ) → (a ≡ true → b ≡ true) → m ≤ n → (if a then 1 else 0) + m ≤ (if b then 1 else 0) + n
one_more true true m n h le = omega (arith, le)
one_more true false m n h le = cc (h refl)
one_more false true m n h le = omega (arith, le)
one_more false false m n h le = omega (arith, le)

count_part : (p q : ℕ → Stream → Bool) (i : ℕ) (ss : List Stream) → ((k : ℕ) (s : Stream) → p k s ≡ true → q k s ≡ true) → count_of p i ss ≤ count_of q i ss
count_part p q i [] part = omega arith
count_part p q i (s ∷ ss) part = one_more (p i s) (q i s) (count_of p (i + 1) ss) (count_of q (i + 1) ss) (part i s) (count_part p q (i + 1) ss part)

one_less : (a b : Bool) (m n : ℕ) → (a ≡ true → b ≡ true) → m < n → (if a then 1 else 0) + m < (if b then 1 else 0) + n
one_less true true m n h lt = omega (arith, lt)
one_less true false m n h lt = cc (h refl)
one_less false true m n h lt = omega (arith, lt)
one_less false false m n h lt = omega (arith, lt)

count_less : (p q : ℕ → Stream → Bool) (i n k : ℕ) (ss : List Stream) (s : Stream) → ((k : ℕ) (s : Stream) → p k s ≡ true → q k s ≡ true)
    → slice_get ss k ≡ Some s → n ≡ i + k → p n s ≡ false → q n s ≡ true → count_of p i ss < count_of q i ss
count_less p q i n k [] s part at e out here = cc at
count_less p q i n zero (t ∷ ss) s part at e out here =
    let is : t ≡ s = some_same at in
    let place : n ≡ i = omega (arith, e) in
    let no : p i t ≡ false = ap₂ p (sym place) is ∙ out in
    let there : q i t ≡ true = ap₂ q (sym place) is ∙ here in
    let rest = count_part p q (i + 1) ss part in
    rw (no, there) (omega (arith, rest))
count_less p q i n (suc k) (t ∷ ss) s part at e out here =
    one_less (p i t) (q i t) (count_of p (i + 1) ss) (count_of q (i + 1) ss) (part i t) (count_less p q (i + 1) n k ss s part at (omega (arith, e)) out here)

abbrev rank_of : List ℤ → List Stream → ℕ → ℕ
rank_of costs ss j = count_of (precedes costs j) 0 ss

rank_less : (costs : List ℤ) (ss : List Stream) (j k : ℕ) (t : Stream) → slice_get ss k ≡ Some t → precedes costs j k t ≡ true → rank_of costs ss k < rank_of costs ss j
rank_less costs ss j k t at dearer =
    count_less (precedes costs k) (precedes costs j) 0 k k ss t (λ n u h. precedes_trans costs j k n t u dearer h) at (omega arith)
    (elim (cases_Bool (precedes costs k k t)) [
      | inl on ↦ absurd (outranks_not (item costs k) k (precedes_says costs k k t on).1)
      | inr off ↦ off
    ]) dearer

-- ---- nodes that preceding streams join are joined by those that stay unmeasured
-- the streams that stay unmeasured and precede stream j
abbrev pub stays_before : List ℤ → List Bool → ℕ → ℕ → Stream → Bool
stays_before costs chosen j k t = stays_unmeasured chosen k t && precedes costs j k t

-- so it is for the first n streams of the order
abbrev SpansBelow : ProcessGraph → List ℤ → List Bool → ℕ → Type 0
SpansBelow g costs chosen n = (j a b : ℕ) → rank_of costs g.streams j < n
    → Reaches (ends_of (precedes costs j) g.streams) a b → Reaches (ends_of (stays_before costs chosen j) g.streams) a b

bare_stays : (chosen : List Bool) (k : ℕ) (t : Stream) → unmeasured k t ≡ true → get_or chosen k false ≡ false → stays_unmeasured chosen k t ≡ true
bare_stays chosen k t bare off = and_from (unmeasured k t) (not (get_or chosen k false)) bare (not_from_false (get_or chosen k false) off)

pub stays_says : (chosen : List Bool) (k : ℕ) (t : Stream) → stays_unmeasured chosen k t ≡ true → (unmeasured k t ≡ true) × (get_or chosen k false ≡ false)
stays_says chosen k t ok =
    let parts = and_parts (unmeasured k t) (not (get_or chosen k false)) ok in
    (parts.0, not-true (get_or chosen k false) parts.1)

step_spans : (g : ProcessGraph) (costs : List ℤ) (chosen : List Bool) (n : ℕ) → IsAdvisedChoice g costs chosen → SpansBelow g costs chosen n
    → (j a c : ℕ) (t : Step) → rank_of costs g.streams j ≤ n → ends_of (precedes costs j) g.streams t ≡ Some (a, c)
    → Reaches (ends_of (stays_before costs chosen j) g.streams) a c
step_spans g costs chosen n advised below j a c t le e =
    let ss = g.streams in
    let (s, at, ok, goes) = stream_of (precedes costs j) ss t (a, c) e in
    let bare = (precedes_says costs j t.stream s ok).0 in
    elim (cases_Bool (get_or chosen t.stream false)) [
      | inr off ↦
          let both = and_from (stays_unmeasured chosen t.stream s) (precedes costs j t.stream s) (bare_stays chosen t.stream s bare off) ok in
          reach_one (ends_of (stays_before costs chosen j) ss) a c t
          (ends_is (stays_before costs chosen j) ss t.stream s t.forward at both ∙ ap (λ (p : ℕ × ℕ). Some p) goes)
      | inl on ↦
          let less = rank_less costs ss j t.stream s at ok in
          let joined = (advised.decided t.stream s at (not-true (is_measured s) bare)).0 on in
          let earlier = below t.stream s.from s.to (omega (arith, less, le)) joined in
          along_reach (stays_before costs chosen j) ss s t.forward a c goes
          (reach_more (stays_before costs chosen t.stream) (stays_before costs chosen j) ss s.from s.to (λ k u here both.
          let parts = and_parts (stays_unmeasured chosen k u) (precedes costs t.stream k u) both in
          and_from (stays_unmeasured chosen k u) (precedes costs j k u) parts.0 (precedes_trans costs j t.stream k s u ok parts.1)) earlier)
    ]

walk_spans : (g : ProcessGraph) (costs : List ℤ) (chosen : List Bool) (n : ℕ) → IsAdvisedChoice g costs chosen → SpansBelow g costs chosen n
    → (j a b : ℕ) (steps : List Step) → rank_of costs g.streams j ≤ n → Walks (ends_of (precedes costs j) g.streams) a steps b
    → Reaches (ends_of (stays_before costs chosen j) g.streams) a b
walk_spans g costs chosen n advised below j a b [] le w = ([], w)
walk_spans g costs chosen n advised below j a b (t ∷ rest) le (c, e, w) =
    reach_both (ends_of (stays_before costs chosen j) g.streams) a c b (step_spans g costs chosen n advised below j a c t le e)
    (walk_spans g costs chosen n advised below j c b rest le w)

spans_below : (g : ProcessGraph) (costs : List ℤ) (chosen : List Bool) (n : ℕ) → IsAdvisedChoice g costs chosen → SpansBelow g costs chosen n
spans_below g costs chosen zero advised = λ j a b lt r. absurd (omega (arith, lt))
spans_below g costs chosen (suc n) advised = λ j a b lt r.
    walk_spans g costs chosen n advised (spans_below g costs chosen n advised) j a b r.0 (omega (arith, lt)) r.1

-- streams that stay unmeasured and precede a chosen stream join its ends
pub chosen_joined : (g : ProcessGraph) (costs : List ℤ) (chosen : List Bool) (j : ℕ) (s : Stream) → IsAdvisedChoice g costs chosen → slice_get g.streams j ≡ Some s
    → get_or chosen j false ≡ true → Reaches (ends_of (stays_before costs chosen j) g.streams) s.from s.to
chosen_joined g costs chosen j s advised at on =
    let joined = (advised.decided j s at (advised.choice.bare j s at on)).0 on in
    let rank = rank_of costs g.streams j in
    walk_spans g costs chosen rank advised (spans_below g costs chosen rank advised) j s.from s.to joined.0 (omega arith) joined.1

pub chosen_tied : (g : ProcessGraph) (costs : List ℤ) (chosen : List Bool) (j : ℕ) (s : Stream) → IsAdvisedChoice g costs chosen → slice_get g.streams j ≡ Some s
    → get_or chosen j false ≡ true → Reaches (ends_of (stays_unmeasured chosen) g.streams) s.from s.to
chosen_tied g costs chosen j s advised at on =
    reach_more (stays_before costs chosen j) (stays_unmeasured chosen) g.streams s.from s.to
    (λ k t here both. (and_parts (stays_unmeasured chosen k t) (precedes costs j k t) both).0) (chosen_joined g costs chosen j s advised at on)

-- ---- the streams that stay unmeasured have no cycle
-- those of a rank below n
abbrev stays_below : List ℤ → List Stream → List Bool → ℕ → ℕ → Stream → Bool
stays_below costs ss chosen n k t = stays_unmeasured chosen k t && nat_lt (rank_of costs ss k) n

-- a place that passes a test, or none does
find_place : (p : ℕ → Bool) (m : ℕ) → ((i : ℕ) × (i < m) × (p i ≡ true)) ⊎ ((i : ℕ) → i < m → p i ≡ false)
find_place p zero = inr (λ i lt. absurd (omega (arith, lt)))
find_place p (suc m) = elim (cases_Bool (p m)) [
  | inl here ↦ inl (m, omega arith, here)
  | inr other ↦ elim (find_place p m) [
    | inl (i, lt, e) ↦ inl (i, omega (arith, lt), e)
    | inr none ↦ inr (λ i lt. elim (cases_eq i m) [
      | inl same ↦ ap p same ∙ other
      | inr ne ↦ none i (omega (arith, lt, ne))
    ])
  ]
]

-- a stream of lower rank comes before
before_precedes : (costs : List ℤ) (ss : List Stream) (k i : ℕ) (t s : Stream) → slice_get ss k ≡ Some t → slice_get ss i ≡ Some s
    → unmeasured k t ≡ true → unmeasured i s ≡ true → k ≢ i → rank_of costs ss k ≤ rank_of costs ss i → precedes costs i k t ≡ true
before_precedes costs ss k i t s at_t at bare_t bare ne le = elim (outranks_one (item costs i) (item costs k) i k (λ z. ne (sym z))) [
  | inl a ↦ precedes_is costs i k t bare_t a
  | inr a ↦ let less = rank_less costs ss k i s at (precedes_is costs k i s bare a) in absurd (omega (arith, less, le))
]

-- two streams have two ranks
two_ranks : (costs : List ℤ) (ss : List Stream) (k i : ℕ) (t s : Stream) → slice_get ss k ≡ Some t → slice_get ss i ≡ Some s
    → unmeasured k t ≡ true → unmeasured i s ≡ true → k ≢ i → rank_of costs ss k ≢ rank_of costs ss i
two_ranks costs ss k i t s at_t at bare_t bare ne same =
    let less = rank_less costs ss i k t at_t (before_precedes costs ss k i t s at_t at bare_t bare ne (omega (arith, same))) in
    omega (arith, less, same)

acyclic_below : (g : ProcessGraph) (costs : List ℤ) (chosen : List Bool) (n : ℕ) → IsAdvisedChoice g costs chosen
    → IsAcyclic g.streams (stays_below costs g.streams chosen n)
acyclic_below g costs chosen zero advised = λ j s at ok r.
    let rank = rank_of costs g.streams j in
    let lt = ltb-true rank 0 (and_parts (stays_unmeasured chosen j s) (nat_lt rank 0) ok).1 in
    omega (arith, lt)
acyclic_below g costs chosen (suc n) advised =
    let ss = g.streams in
    let rank = rank_of costs ss in
    let stays = stays_unmeasured chosen in
    let before = stays_below costs ss chosen n in
    let next = stays_below costs ss chosen (suc n) in
    let acyclic = acyclic_below g costs chosen n advised in
    let lower : (k : ℕ) (t : Stream) → rank k ≢ n → next k t ≡ true → before k t ≡ true = λ k t ne ok.
    let parts = and_parts (stays k t) (nat_lt (rank k) (suc n)) ok in
    let lt = ltb-true (rank k) (suc n) parts.1 in
    and_from (stays k t) (nat_lt (rank k) n) parts.0 (lt-ltb (rank k) n (omega (arith, lt, ne))) in
    let there : (k : ℕ) (t : Stream) → next k t ≡ true → stays k t ≡ true = λ k t ok. (and_parts (stays k t) (nat_lt (rank k) (suc n)) ok).0 in
    let d : Stream = record { from = 0; to = 0; meas = None } in
    let is_nth : ℕ → Bool = λ k. stays k (get_or ss k d) && (rank k == n) in
    elim (find_place is_nth (length ss)) [
      | inr none ↦ acyclic_part ss next before (λ k t at ok. lower k t (λ same.
          let is : get_or ss k d ≡ t = get_or_from_slice_get ss k t d at in
          let found : is_nth k ≡ true = and_from (stays k (get_or ss k d)) (rank k == n) (ap (λ (u : Stream). stays k u) is ∙ there k t ok) (eq-eqb (rank k) n same) in
          cc (sym (none k (slice_get_within ss k t at)) ∙ found)) ok) acyclic
      | inl (i, lt, found) ↦
          let s : Stream = get_or ss i d in
          let at : slice_get ss i ≡ Some s = slice_get-get_or ss i d lt in
          let both = and_parts (stays i s) (rank i == n) found in
          let e : rank i ≡ n = eqb-true (rank i) n both.1 in
          let mine = stays_says chosen i s both.0 in
          let apart : Reaches (ends_of before ss) s.from s.to → ⊥ = λ r.
          let on = (advised.decided i s at (not-true (is_measured s) mine.0)).1 (reach_more before (precedes costs i) ss s.from s.to (λ k t at_t ok.
          let parts = and_parts (stays k t) (nat_lt (rank k) n) ok in
          let low = ltb-true (rank k) n parts.1 in
          before_precedes costs ss k i t s at_t at (stays_says chosen k t parts.0).0 mine.0
          (λ same. let z : rank k ≡ rank i = ap rank same in omega (arith, low, e, z)) (omega (arith, low, e))) r) in
          cc (sym mine.1 ∙ on) in
          let but : IsPartBut ss i next before = λ k t at_t ne ok.
          lower k t (λ same. two_ranks costs ss k i t s at_t at (stays_says chosen k t (there k t ok)).0 mine.0 ne (same ∙ sym e)) ok in
          acyclic_more ss before next i s at apart but acyclic
    ]

-- every rank is at most the number of streams
count_most : (p : ℕ → Stream → Bool) (i : ℕ) (ss : List Stream) → count_of p i ss ≤ length ss
count_most p i [] = omega arith
count_most p i (s ∷ ss) = let h = count_most p (i + 1) ss in at_most (p i s) (count_of p (i + 1) ss) (length ss) h
  where
    at_most : (a : Bool) (m n : ℕ) → m ≤ n → (if a then 1 else 0) + m ≤ suc n
    at_most true m n le = omega (arith, le)
    at_most false m n le = omega (arith, le)

pub stays_acyclic : (g : ProcessGraph) (costs : List ℤ) (chosen : List Bool) → IsAdvisedChoice g costs chosen → IsAcyclic g.streams (stays_unmeasured chosen)
stays_acyclic g costs chosen advised =
    let ss = g.streams in
    let most = suc (length ss) in
    acyclic_part ss (stays_unmeasured chosen) (stays_below costs ss chosen most)
    (λ k t at ok.
    let le = count_most (precedes costs k) 0 ss in
    and_from (stays_unmeasured chosen k t) (nat_lt (rank_of costs ss k) most) ok (lt-ltb (rank_of costs ss k) most (omega (arith, le))))
    (acyclic_below g costs chosen most advised)

-- ---- there is one such choice
on_unless : (x y : Bool) → (x ≡ true → y ≡ true) → (y ≡ true → x ≡ true) → x ≡ y
on_unless true y to from = sym (to refl)
on_unless false true to from = from refl
on_unless false false to from = refl

off_unless : (x b : Bool) → b ≡ true → (x ≡ true → b ≡ false) → x ≡ false
off_unless true b on off = cc (sym on ∙ off refl)
off_unless false b on off = refl

pub one_choice : (g : ProcessGraph) (costs : List ℤ) (one other : List Bool) → IsAdvisedChoice g costs one → IsAdvisedChoice g costs other → one ≡ other
one_choice g costs one other a b =
    let ss = g.streams in
    let d : Stream = record { from = 0; to = 0; meas = None } in
    ext_get_or false one other (a.choice.each ∙ sym b.choice.each) (λ j lt.
    let within : j < length ss = let e = a.choice.each in omega (arith, lt, e) in
    let s = get_or ss j d in
    let at = slice_get-get_or ss j d within in
    elim (cases_Bool (is_measured s)) [
      | inr bare ↦
          let x = a.decided j s at bare in
          let y = b.decided j s at bare in
          on_unless (get_or one j false) (get_or other j false) (λ h. y.1 (x.0 h)) (λ h. x.1 (y.0 h))
      | inl measured ↦
          off_unless (get_or one j false) (is_measured s) measured (a.choice.bare j s at)
          ∙ sym (off_unless (get_or other j false) (is_measured s) measured (b.choice.bare j s at))
    ])

-- no stream precedes itself, and no two precede each other
pub precedes_not : (costs : List ℤ) (j k : ℕ) (t : Stream) → k ≡ j → precedes costs j k t ≡ true → ⊥
precedes_not costs j k t same on =
    outranks_not (item costs j) j (subst (λ (n : ℕ). Outranks (item costs j) (item costs n) j n) same (precedes_says costs j k t on).1)

pub precedes_both : (costs : List ℤ) (j k : ℕ) (s t : Stream) → precedes costs k j s ≡ true → precedes costs j k t ≡ true → ⊥
precedes_both costs j k s t a b = precedes_not costs j j s refl (precedes_trans costs j k j t s b a)
