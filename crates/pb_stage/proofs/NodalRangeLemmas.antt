-- The numbers of nodal tests are within their limits.
use Rattle.std.proofs.Common.{ℕ, zero, suc, ◌≤◌, ℤ, pos, ◌≤ℤ◌, unsigned_abs, Bool, true, false, List, [], ◌∷◌, length, All, Option, None, Some, sym, subst, arith}
use Rattle.std.specs.Prelude.{IfSome, if◌then◌else◌}
use Rattle.std.specs.List.{AllByRecursion}
use Rattle.std.proofs.lemmas.Int.{ints}
use Rattle.std.proofs.lemmas.List.Elements.{All-nil, All-cons, All-append}
use Rattle.pb_limits.specs.Limits.{most_streams, most_value, most_variance}
use Rattle.pb_fixed.proofs.Lists.{AllByRecursion-from_all, AllByRecursion-map}
use Rattle.pb_fixed.proofs.Sums.{sum_over-bound, sum_over-nonneg}
use Rattle.pb_graph.specs.declared.records.Meas.{Meas}
use Rattle.pb_graph.specs.declared.records.Stream.{Stream}
use Rattle.pb_study.specs.declared.results.NodalTest.{NodalTest}
use Rattle.pb_graph.specs.ProcessGraph.{IsMeasurement, IsWithinLimits}
use Rattle.pb_graph.specs.Groups.{entering, group_count, has_one_end, is_free_group}
use Rattle.pb_graph.specs.Squares.{value_or_zero}
use Rattle.pb_graph.specs.Variance.{crossing_variance, group_variance, most_group_variance, variance_of}
use Rattle.pb_stage.specs.Nodal.{crossing_value, group_net, most_group_net, nodal_test, nodal_tests_below, test_of_group}
use Rattle.pb_stage.specs.Laws.{IsNodalNumber, NodalRangeLaw}

value_within : (o : Option Meas) → IfSome o IsMeasurement → unsigned_abs (value_or_zero o) ≤ most_value
value_within None limits = omega arith
value_within (Some m) limits = limits.value

entering_within : (a b : Bool) (x : ℤ) (n : ℕ) → unsigned_abs x ≤ n → unsigned_abs (entering a b x) ≤ n
entering_within true true x n small = omega arith
entering_within false true x n small = small
entering_within true false x n small = omega (arith, ints, small)
entering_within false false x n small = omega arith

net_within : (group : List ℕ) (k : ℕ) (ss : List Stream) → length ss ≤ most_streams → AllByRecursion IsWithinLimits ss → unsigned_abs (group_net group k ss) ≤ most_group_net
net_within group k ss few limits =
    let each = AllByRecursion-map IsWithinLimits (λ s. unsigned_abs (crossing_value group k s) ≤ most_value) ss
    (λ s l. entering_within _ _ (value_or_zero s.meas) most_value (value_within s.meas l)) limits in
    let bound = sum_over-bound (crossing_value group k) most_value ss each in
    omega (arith, bound, few)

abbrev IsVariance : ℤ → Type 0
IsVariance v = (pos 0 ≤ℤ v) × (unsigned_abs v ≤ most_variance)

variance_within : (b : Bool) (o : Option Meas) → IfSome o IsMeasurement → IsVariance (if b then variance_of o else pos 0)
variance_within true None limits = (omega (arith, ints), omega arith)
variance_within true (Some m) limits = (omega (arith, ints, limits.least), omega (arith, ints, limits.least, limits.greatest))
variance_within false o limits = (omega (arith, ints), omega arith)

group_variance_within : (group : List ℕ) (k : ℕ) (ss : List Stream) → length ss ≤ most_streams → AllByRecursion IsWithinLimits ss
    → (pos 0 ≤ℤ group_variance group k ss) × (group_variance group k ss ≤ℤ pos most_group_variance)
group_variance_within group k ss few limits =
    let at : Stream → ℤ = crossing_variance group k in
    let each : (s : Stream) → IsWithinLimits s → IsVariance (at s) = λ s l. variance_within (has_one_end group k s) s.meas l in
    let least = sum_over-nonneg at ss (AllByRecursion-map IsWithinLimits (λ s. pos 0 ≤ℤ at s) ss (λ s l. (each s l).0) limits) in
    let most = sum_over-bound at most_variance ss (AllByRecursion-map IsWithinLimits (λ s. unsigned_abs (at s) ≤ most_variance) ss (λ s l. (each s l).1) limits) in
    (least, omega (arith, ints, least, most, few))

test_if : (b : Bool) (test : NodalTest) → IsNodalNumber test → All IsNodalNumber (if b then test ∷ [] else [])
test_if true test is = All-cons IsNodalNumber test [] is (All-nil IsNodalNumber)
test_if false test is = All-nil IsNodalNumber

below_within : (group : List ℕ) (ss : List Stream) (critical : Option ℤ) (k : ℕ) → length ss ≤ most_streams → AllByRecursion IsWithinLimits ss
    → All IsNodalNumber (nodal_tests_below group ss critical k)
below_within group ss critical zero few limits = All-nil IsNodalNumber
below_within group ss critical (suc k) few limits =
    let variance = group_variance_within group k ss few limits in
    All-append IsNodalNumber (nodal_tests_below group ss critical k) (test_of_group group ss critical k) (below_within group ss critical k few limits)
    (test_if (is_free_group group ss k) (nodal_test group ss critical k) (record { net = net_within group k ss few limits; positive = variance.0; variance = variance.1 }))

pub nodal_range : NodalRangeLaw
nodal_range graph critical tests limits are =
    subst (All IsNodalNumber) (sym are.tested)
    (below_within are.group graph.streams critical (group_count are.group) limits.few_streams (AllByRecursion-from_all IsWithinLimits graph.streams limits.limits))
