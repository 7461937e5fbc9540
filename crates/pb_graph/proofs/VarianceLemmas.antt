-- The variances of the groups, stream by stream.
use Rattle.std.proofs.Common.{◌≡◌, ◌≢◌, ◌∙◌, ℕ, zero, suc, ◌+◌, ◌<◌, ◌≤◌, ℤ, pos, ◌+ℤ◌, List, [], ◌∷◌, length, get_or, set, take, Option, Some, None, ap, sym, inl, inr, arith, unsigned_abs, length-set, length-take}
use Rattle.std.specs.Prelude.{if◌then◌else◌, IfSome}
use Rattle.std.specs.List.{All, AllByRecursion}
use Rattle.std.proofs.lemmas.Bool.{cases_Bool, cases_eq, eq-eqb, ne_eqb}
use Rattle.std.proofs.lemmas.Grind.{get_or-set_at}
use Rattle.std.proofs.lemmas.Int.{ints}
use Rattle.std.proofs.lemmas.List.{get_or-set_other}
use Rattle.pb_limits.specs.Limits.{most_streams, most_variance}
use Rattle.pb_fixed.proofs.Lists.{AllByRecursion-from_all, AllByRecursion-map}
use Rattle.pb_fixed.proofs.Sums.{sum_over-bound, sum_over-take_more}
use Rattle.pb_graph.specs.declared.records.Meas.{Meas}
use Rattle.pb_graph.specs.declared.records.Stream.{Stream}
use Rattle.pb_graph.specs.ProcessGraph.{IsWithinLimits, IsMeasurement}
use Rattle.pb_graph.specs.Groups.{has_one_end, is_one_end}
use Rattle.pb_graph.specs.Variance.{crossing_variance, group_variance, variance_of, most_group_variance}

-- a variance added at both ends
pub crossing_at : (totals : List ℤ) (from to k : ℕ) (v x y : ℤ) → from ≢ to → from < length totals → to < length totals
    → x ≡ get_or totals from (pos 0) +ℤ v → y ≡ get_or totals to (pos 0) +ℤ v
    → get_or (set (set totals from x) to y) k (pos 0) ≡ get_or totals k (pos 0) +ℤ (if is_one_end from to k then v else pos 0)
crossing_at totals from to k v x y apart from_lt to_lt x_is y_is = elim (cases_eq to k) [
  | inl e ↦
      let other : from ≢ k = λ f. apart (f ∙ sym e) in
      rw (eq-eqb to k e, ne_eqb from k other) (get_or-set_at (set totals from x) to k y (pos 0) (sym e) (simp length-set to_lt) ∙ y_is ∙ ap (λ n. get_or totals n (pos 0) +ℤ v) e)
  | inr ne ↦
      let past = get_or-set_other (set totals from x) to k y (pos 0) (λ f. ne (sym f)) in
      elim (cases_eq from k) [
        | inl e ↦ rw (ne_eqb to k ne, eq-eqb from k e) (past ∙ get_or-set_at totals from k x (pos 0) (sym e) from_lt ∙ x_is ∙ ap (λ n. get_or totals n (pos 0) +ℤ v) e)
        | inr other ↦
            let same = get_or-set_other totals from k x (pos 0) (λ f. other (sym f)) in
            rw (ne_eqb to k ne, ne_eqb from k other) (omega (arith, ints, past, same))
      ]
]

crossing_within : (group : List ℕ) (k : ℕ) (s : Stream) → IsWithinLimits s → unsigned_abs (crossing_variance group k s) ≤ most_variance
crossing_within group k s h = elim (cases_Bool (has_one_end group k s)) [
  | inl one ↦ rw one (variance_within s.meas h)
  | inr none ↦ rw none (omega arith)
]
  where
    variance_within : (m : Option Meas) → IfSome m IsMeasurement → unsigned_abs (variance_of m) ≤ most_variance
    variance_within None h = omega arith
    variance_within (Some m) h = omega (arith, ints, h.least, h.greatest)

all_take : {X : Type 0} (P : X → Type 0) (xs : List X) (n : ℕ) → AllByRecursion P xs → AllByRecursion P (take n xs)
all_take P xs zero h = tt
all_take P [] (suc n) h = tt
all_take P (x ∷ xs) (suc n) h = (h.0, all_take P xs n h.1)

-- the variance of a group over the first streams has room for the others
pub variance_room : (group : List ℕ) (k j : ℕ) (ss : List Stream) → All IsWithinLimits ss → length ss ≤ most_streams
    → unsigned_abs (group_variance group k (take j ss)) ≤ most_group_variance
variance_room group k j ss h few =
    let each = AllByRecursion-map IsWithinLimits (λ s. unsigned_abs (crossing_variance group k s) ≤ most_variance) (take j ss) (crossing_within group k) (all_take IsWithinLimits ss j (AllByRecursion-from_all IsWithinLimits ss h)) in
    let bound = sum_over-bound (crossing_variance group k) most_variance (take j ss) each in
    let size = length-take j ss in
    omega (arith, bound, size, few)

-- one more stream
pub variance_more : (group : List ℕ) (k j : ℕ) (ss : List Stream) (d : Stream) (old new : ℤ) → j < length ss → new ≡ old +ℤ crossing_variance group k (get_or ss j d)
    → old ≡ group_variance group k (take j ss) → new ≡ group_variance group k (take (j + 1) ss)
variance_more group k j ss d old new lt step so_far =
    step ∙ ap (λ (x : ℤ). x +ℤ crossing_variance group k (get_or ss j d)) so_far ∙ sym (sum_over-take_more (crossing_variance group k) ss j d lt)
