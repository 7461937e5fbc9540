-- A group is free if it isn't the first one and has some variance.
use Rattle.std.proofs.Common.{◌≡◌, ◌≢◌, ◌∙◌, ◌==◌, ℕ, ◌<◌, ◌≤◌, ℤ, pos, ◌+ℤ◌, ◌≤ℤ◌, ◌<ℤ◌, Bool, true, false, not, List, [], ◌∷◌, get_or, Option, Some, None, slice_get, ap, ap₂, sym, refl, subst, inl, inr, arith}
use Rattle.std.specs.Prelude.{◌&&◌, ◌⊎◌, int_lt, IfSome}
use Rattle.std.specs.List.{All, AllByRecursion, list_any}
use Rattle.std.proofs.lemmas.Bool.{cases_Bool, cases_eq, eq-eqb, ne_eqb, and_parts}
use Rattle.std.proofs.lemmas.Int.{ints}
use Rattle.std.proofs.lemmas.List.Folds.{Any-from_list_any, list_any-from_Any}
use Rattle.std.proofs.lemmas.Option.{slice_get-get_or}
use Rattle.pb_fixed.proofs.Lists.{AllByRecursion-from_all}
use Rattle.pb_graph.specs.declared.records.Meas.{Meas}
use Rattle.pb_graph.specs.declared.records.Stream.{Stream}
use Rattle.pb_graph.specs.ProcessGraph.{ProcessGraph, IsStream, IsMeasurement, IsWithinLimits, is_measured}
use Rattle.pb_graph.specs.Groups.{CrossesGroup, IsFreeGroup, AreGroups, group_at, is_one_end, has_one_end, is_free_group}
use Rattle.pb_graph.specs.Variance.{variance_of, group_variance}
use Rattle.pb_graph.proofs.SameGroupLemmas.{stream_joins}

-- exactly one of two numbers is k
pub one_end_cases : (from to k : ℕ) → is_one_end from to k ≡ true → ((from ≡ k) × (to ≢ k)) ⊎ ((from ≢ k) × (to ≡ k))
one_end_cases from to k h = elim (cases_eq to k) [
  | inl e ↦ elim (cases_eq from k) [
    | inl f ↦ absurd (let is : is_one_end from to k ≡ false = rw (eq-eqb to k e, eq-eqb from k f) refl in cc (sym h ∙ is))
    | inr f ↦ inr (f, e)
  ]
  | inr e ↦ elim (cases_eq from k) [
    | inl f ↦ inl (f, e)
    | inr f ↦ absurd (let is : is_one_end from to k ≡ false = rw (ne_eqb to k e, ne_eqb from k f) refl in cc (sym h ∙ is))
  ]
]

pub one_end_from : (from to k : ℕ) → from ≡ k → to ≢ k → is_one_end from to k ≡ true
one_end_from from to k f e = rw (ne_eqb to k e, eq-eqb from k f) refl

pub one_end_to : (from to k : ℕ) → from ≢ k → to ≡ k → is_one_end from to k ≡ true
one_end_to from to k f e = rw (eq-eqb to k e, ne_eqb from k f) refl

-- the number of the environment's group
pub first_number : (g : ProcessGraph) (group : List ℕ) → AreGroups g group → 1 ≤ g.nodes → group_at group 0 ≡ 0
first_number g group h some = elim (cases_eq (group_at group 0) 0) [
  | inl e ↦ e
  | inr ne ↦ let (m, before, is) = h.numbered 0 0 some (omega (arith, ne)) in absurd (omega (arith, before))
]

-- a stream with exactly one end in a group is measured
pub crossing_measured : (g : ProcessGraph) (group : List ℕ) (k i : ℕ) (s : Stream) → AreGroups g group → IsStream g.nodes s → slice_get g.streams i ≡ Some s
    → has_one_end group k s ≡ true → is_measured s ≡ true
crossing_measured g group k i s h ends at one = elim (cases_Bool (is_measured s)) [
  | inl measured ↦ measured
  | inr plain ↦
      let same = (h.same s.from s.to ends.from ends.to).1 (stream_joins g.streams i s at plain) in
      elim (one_end_cases (group_at group s.from) (group_at group s.to) k one) [
        | inl p ↦ absurd (p.1 (sym same ∙ p.0))
        | inr p ↦ absurd (p.0 (same ∙ p.1))
      ]
]

-- a crossing stream has some variance
abbrev pub AddsVariance : List ℕ → ℕ → Stream → Type 0
AddsVariance group k s = has_one_end group k s ≡ true → pos 0 <ℤ variance_of s.meas

adds_variance : (m : Option Meas) → IfSome m IsMeasurement → m ≢ None → pos 0 <ℤ variance_of m
adds_variance None h some = absurd (some refl)
adds_variance (Some m) h some = let l = h.least in omega (arith, ints, l)

pub crossings_add : (g : ProcessGraph) (group : List ℕ) (k : ℕ) → AreGroups g group → All (IsStream g.nodes) g.streams → All IsWithinLimits g.streams
    → AllByRecursion (AddsVariance group k) g.streams
crossings_add g group k h ends limits = AllByRecursion-from_all (AddsVariance group k) g.streams (λ j d lt one.
    let s = get_or g.streams j d in
    let measured = crossing_measured g group k j s h (ends j d lt) (slice_get-get_or g.streams j d lt) one in
    adds_variance s.meas (limits j d lt) (λ none. cc (sym measured ∙ ap (λ (m : Option Meas). is_measured (record { from = 0; to = 0; meas = m })) none)))

pub variance_nonneg : (group : List ℕ) (k : ℕ) (ss : List Stream) → AllByRecursion (AddsVariance group k) ss → pos 0 ≤ℤ group_variance group k ss
variance_nonneg group k [] h = omega (arith, ints)
variance_nonneg group k (s ∷ ss) h =
    let rest = variance_nonneg group k ss h.1 in
    elim (cases_Bool (has_one_end group k s)) [
      | inl one ↦ rw one (let v = h.0 one in omega (arith, ints, v, rest))
      | inr none ↦ rw none (omega (arith, ints, rest))
    ]

-- some stream has exactly one end in a group if the group has some variance
pub crossed_is : (group : List ℕ) (k : ℕ) (ss : List Stream) → AllByRecursion (AddsVariance group k) ss → list_any (has_one_end group k) ss ≡ int_lt (pos 0) (group_variance group k ss)
crossed_is group k [] h = refl
crossed_is group k (s ∷ ss) h =
    let rest = variance_nonneg group k ss h.1 in
    elim (cases_Bool (has_one_end group k s)) [
      | inl one ↦ rw one (sym (let v = h.0 one in above (variance_of s.meas +ℤ group_variance group k ss) (omega (arith, ints, v, rest))))
      | inr none ↦ rw none (crossed_is group k ss h.1 ∙ plus_zero (group_variance group k ss))
    ]
  where
    plus_zero : (x : ℤ) → int_lt (pos 0) x ≡ int_lt (pos 0) (pos 0 +ℤ x)
    plus_zero x = let e : x ≡ pos 0 +ℤ x = omega (arith, ints) in ap (int_lt (pos 0)) e

    above : (x : ℤ) → pos 0 <ℤ x → int_lt (pos 0) x ≡ true
    above x lt = grind (arith, ints, lt)

pub free_is : (g : ProcessGraph) (group : List ℕ) (k : ℕ) → AreGroups g group → 1 ≤ g.nodes → All (IsStream g.nodes) g.streams → All IsWithinLimits g.streams
    → is_free_group group g.streams k ≡ (not (0 == k) && int_lt (pos 0) (group_variance group k g.streams))
free_is g group k h some ends limits =
    ap₂ (λ (x : ℕ) (b : Bool). not (x == k) && b) (first_number g group h some) (crossed_is group k g.streams (crossings_add g group k h ends limits))

-- the test by numbers agrees with the relation by walks
pub free_means : (g : ProcessGraph) (group : List ℕ) (n : ℕ) → AreGroups g group → 1 ≤ g.nodes → All (IsStream g.nodes) g.streams → n < g.nodes
    → (is_free_group group g.streams (group_at group n) ≡ true → IsFreeGroup g n) × (IsFreeGroup g n → is_free_group group g.streams (group_at group n) ≡ true)
free_means g group n h some ends lt = (
  (λ free.
      let parts = and_parts (not (group_at group 0 == group_at group n)) (list_any (has_one_end group (group_at group n)) g.streams) free in
      record {
        apart = λ same. let no : true ≡ false = sym parts.0 ∙ ap not (eq-eqb (group_at group 0) (group_at group n) ((h.same 0 n some lt).1 same)) in cc no;
        crossed =
            let (i, s, within, is, one) = Any-from_list_any (has_one_end group (group_at group n)) g.streams parts.1 in
            (i, s, within, is, crosses s (subst (IsStream g.nodes) is (ends i s within)) one);
      }),
  (λ free.
      let (i, s, within, is, one) = free.crossed in
      let apart : not (group_at group 0 == group_at group n) ≡ true = ap not (ne_eqb (group_at group 0) (group_at group n) (λ e. free.apart ((h.same 0 n some lt).0 e))) in
      let crossed = list_any-from_Any (has_one_end group (group_at group n)) g.streams (i, s, within, is, ended s (subst (IsStream g.nodes) is (ends i s within)) one) in
      rw (apart, crossed) refl),
)
  where
    crosses : (s : Stream) → IsStream g.nodes s → has_one_end group (group_at group n) s ≡ true → CrossesGroup g.streams n s
    crosses s e one = elim (one_end_cases (group_at group s.from) (group_at group s.to) (group_at group n) one) [
      | inl p ↦ inl ((h.same n s.from lt e.from).0 (sym p.0), (λ same. p.1 (sym ((h.same n s.to lt e.to).1 same))))
      | inr p ↦ inr ((λ same. p.0 (sym ((h.same n s.from lt e.from).1 same))), (h.same n s.to lt e.to).0 (sym p.1))
    ]

    ended : (s : Stream) → IsStream g.nodes s → CrossesGroup g.streams n s → has_one_end group (group_at group n) s ≡ true
    ended s e c = elim c [
      | inl p ↦ one_end_from (group_at group s.from) (group_at group s.to) (group_at group n) (sym ((h.same n s.from lt e.from).1 p.0)) (λ f. p.1 ((h.same n s.to lt e.to).0 (sym f)))
      | inr p ↦ one_end_to (group_at group s.from) (group_at group s.to) (group_at group n) (λ f. p.0 ((h.same n s.from lt e.from).0 (sym f))) (sym ((h.same n s.to lt e.to).1 p.1))
    ]
