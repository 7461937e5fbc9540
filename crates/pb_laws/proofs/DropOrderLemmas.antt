-- The low end of a drop is at most its high end.
use Rattle.std.proofs.Common.{◌≡◌, ◌∙◌, ℕ, zero, suc, ℤ, pos, ◌-ℤ◌, ◌*ℤ◌, ◌≤ℤ◌, ◌<ℤ◌, ◌<◌, List, [], ◌∷◌, length, All, Option, Some, None, get_or, slice_get, take, refl, sym, ap, subst, arith}
use Rattle.std.specs.Prelude.{IfSome}
use Rattle.std.proofs.lemmas.Int.{int_max_is, ints}
use Rattle.std.proofs.lemmas.Option.{slice_get-get_or}
use Rattle.pb_fixed.proofs.Lists.{all_each}
use Rattle.pb_fixed.proofs.Order.{le_by_eq, le_trans, mul_cancel, mul_mono, mul_positive}
use Rattle.pb_fixed.proofs.Ring.{lit, ring, times, var}
use Rattle.pb_graph.specs.declared.records.Stream.{Stream}
use Rattle.pb_graph.specs.Balance.{IsBalanced}
use Rattle.pb_graph.specs.ProcessGraph.{IsProcessGraph, ProcessGraph, unmeasured_at}
use Rattle.pb_graph.specs.Squares.{AreSquaresAtMost, Fractional, squares_unit, weighted_squares, whole_flows}
use Rattle.pb_study.specs.declared.results.Critical.{Critical}
use Rattle.pb_study.specs.declared.results.MeasureTest.{MeasureTest}
use Rattle.pb_study.specs.declared.results.Options.{Options}
use Rattle.pb_study.specs.declared.results.Solved.{Solved}
use Rattle.pb_study.specs.declared.results.Solved.TheVariants.{Converged, Unconverged}
use Rattle.pb_study.specs.declared.results.Stage.{Stage}
use Rattle.pb_study.specs.declared.results.Tests.{Tests}
use Rattle.pb_gap.proofs.GapLaws.{have_weights}
use Rattle.pb_gap.specs.Solution.{IsSolution}
use Rattle.pb_stage.specs.Certified.{IsCertifiedStage}
use Rattle.pb_stage.specs.Decided.{AreEnds}
use Rattle.pb_stage.specs.Drop.{AreMeasureTests, IsMeasureTestOf, drop_high, drop_low, without_measurement}
use Rattle.pb_stage.specs.Laws.{EndsLaw}
use Rattle.pb_stage.specs.Printed.{printed_flows}
use Rattle.pb_stage.specs.StageTests.{AreTestsOf, redundant_streams}
use Rattle.pb_elim.specs.Laws.{CertifiedLaw}
use Rattle.pb_elim.specs.Stage.{IsStageOf}
use Rattle.pb_elim.specs.Study.{without_taken}
use Rattle.pb_laws.specs.Drops.{AreDropsInOrder, DropOrderLaw, IsDropInOrder}
use Rattle.pb_laws.specs.Metering.{AddsMeters, KeepMeters}
use Rattle.pb_laws.proofs.AgreementLemmas.{flows_balance, statistic_order, unit_positive}
use Rattle.pb_laws.proofs.MeteringLemmas.{balanced_before}
use Rattle.pb_laws.proofs.SquareLemmas.{bare_limits, squares_without}

-- ---- the same flows without the measurement
keep_all : (ss : List Stream) → KeepMeters ss ss
keep_all [] = tt
keep_all (s ∷ ss) = (record { from = refl; to = refl; meter = λ some. some }, keep_all ss)

keep_bare : (j : ℕ) (ss : List Stream) → KeepMeters (unmeasured_at j ss) ss
keep_bare j [] = tt
keep_bare zero (s ∷ ss) = (record { from = refl; to = refl; meter = λ some. cc some }, keep_all ss)
keep_bare (suc j) (s ∷ ss) = (record { from = refl; to = refl; meter = λ some. some }, keep_bare j ss)

balanced_bare : (g : ProcessGraph) (j : ℕ) (flows : List ℤ) → IsBalanced g flows → IsBalanced (without_measurement j g) flows
balanced_bare g j flows even = balanced_before (without_measurement j g) g flows (record { nodes = refl; streams = keep_bare j g.streams }) even

-- the flows of a solved graph balance
solved_balanced : (g : ProcessGraph) (gap sweeps : ℕ) (solved : Solved) (price : ℕ → ℤ) (flows : List ℤ) → IsSolution g gap sweeps solved price flows → IsBalanced g flows
solved_balanced g gap sweeps (Converged k) price flows is = is.here.state.rounded.balanced
solved_balanced g gap sweeps (Unconverged k) price flows is = is.here.rounded.balanced

-- ---- two ends
-- s over u is at least low and at most t over v, which is at most high
in_order : (low high s t u v : ℤ) → pos 1 ≤ℤ u → pos 1 ≤ℤ v → (low *ℤ u) ≤ℤ (pos 1000 *ℤ s) → (s *ℤ v) ≤ℤ (t *ℤ u) → (pos 1000 *ℤ t) ≤ℤ (high *ℤ v) → low ≤ℤ high
in_order low high s t u v u_pos v_pos least less most =
    let one = mul_mono (low *ℤ u) (pos 1000 *ℤ s) v least (omega (arith, ints, v_pos)) in
    let two = mul_mono (s *ℤ v) (t *ℤ u) (pos 1000) less (omega (arith, ints)) in
    let three = mul_mono (pos 1000 *ℤ t) (high *ℤ v) u most (omega (arith, ints, u_pos)) in
    let left : low *ℤ (u *ℤ v) ≡ (low *ℤ u) *ℤ v = ring (low ∷ u ∷ v ∷ []) (times (var 0) (times (var 1) (var 2))) (times (times (var 0) (var 1)) (var 2)) refl in
    let first : (pos 1000 *ℤ s) *ℤ v ≡ (s *ℤ v) *ℤ pos 1000 = ring (s ∷ v ∷ []) (times (times (lit (pos 1000)) (var 0)) (var 1)) (times (times (var 0) (var 1)) (lit (pos 1000))) refl in
    let second : (t *ℤ u) *ℤ pos 1000 ≡ (pos 1000 *ℤ t) *ℤ u = ring (t ∷ u ∷ []) (times (times (var 0) (var 1)) (lit (pos 1000))) (times (times (lit (pos 1000)) (var 0)) (var 1)) refl in
    let right : high *ℤ (u *ℤ v) ≡ (high *ℤ v) *ℤ u = ring (high ∷ u ∷ v ∷ []) (times (var 0) (times (var 1) (var 2))) (times (times (var 0) (var 2)) (var 1)) refl in
    mul_cancel low high (u *ℤ v) (glue _ _ _ _ _ _ _ _ left one first two second three right)
    (mul_positive u v (omega (arith, ints, u_pos)) (omega (arith, ints, v_pos)))
  where
    glue : (a b c d e f h i : ℤ) → a ≡ b → b ≤ℤ c → c ≡ d → d ≤ℤ e → e ≡ f → f ≤ℤ h → i ≡ h → a ≤ℤ i
    glue a b c d e f h i one two three four five six seven = omega (arith, ints, one, two, three, four, five, six, seven)

-- the ends by some balanced flows are in order
ends_order : (g : ProcessGraph) (flows : List ℤ) (low : ℤ) (high : Option ℤ) → IsProcessGraph g → IsBalanced g flows → AreEnds g flows low high → IfSome high (λ (h : ℤ). low ≤ℤ h)
ends_order g flows low None limits even ends = tt
ends_order g flows low (Some h) limits even ends =
    let x = whole_flows flows in
    let u = unit_positive g x (have_weights g limits).positive (omega (arith, ints)) in
    in_order low h (weighted_squares g x) (weighted_squares g x) (squares_unit g x) (squares_unit g x) u u
    (ends.least x (record { positive = omega (arith, ints); balanced = even })) (omega (arith, ints)) ends.most

-- the low end without the measurement is at most the high end with it
without_order : (g : ProcessGraph) (j : ℕ) (flows others : List ℤ) (low : ℤ) (high high_without : Option ℤ) → IsProcessGraph g → IsBalanced g flows
    → IfSome high (AreSquaresAtMost g (whole_flows flows)) → AreEnds (without_measurement j g) others low high_without → IfSome high (λ (h : ℤ). low ≤ℤ h)
without_order g j flows others low None high_without limits even most ends = tt
without_order g j flows others low (Some h) high_without limits even most ends =
    let x = whole_flows flows in
    let other = without_measurement j g in
    let bare = bare_limits j g limits in
    let weights = have_weights other bare in
    in_order low h (weighted_squares other x) (weighted_squares g x) (squares_unit other x) (squares_unit g x)
    (unit_positive other x weights.positive (omega (arith, ints))) (unit_positive g x (have_weights g limits).positive (omega (arith, ints)))
    (ends.least x (record { positive = omega (arith, ints); balanced = balanced_bare g j flows even }))
    (squares_without g j x limits weights.positive weights.each) most

-- ---- the drop
by_ends : (low low_without : ℤ) (high high_without : Option ℤ) → IfSome high (λ (h : ℤ). low ≤ℤ h) → IfSome high (λ (h : ℤ). low_without ≤ℤ h)
    → IfSome high_without (λ (h : ℤ). low_without ≤ℤ h) → IfSome (drop_high high low_without) (λ (h : ℤ). drop_low low high_without ≤ℤ h)
by_ends low low_without None high_without own across without = tt
by_ends low low_without (Some h) None own across without = omega (arith, ints, across)
by_ends low low_without (Some h) (Some w) own across without =
    let is = int_max_is (pos 0) (low -ℤ w) in
    omega (arith, ints, own, across, without, is)

test_order : EndsLaw → (stage : Stage) (gap sweeps : ℕ) (critical : Option ℤ) (stream : ℕ) (test : MeasureTest) → IsCertifiedStage stage
    → IsMeasureTestOf stage.graph gap sweeps stage.low stage.high critical stream test → IsDropInOrder test
test_order ends_law stage gap sweeps critical stream test certified is =
    let g = stage.graph in
    let other = without_measurement stream g in
    let limits = certified.shown.limits in
    let bare = bare_limits stream g limits in
    let ends = ends_law other gap sweeps is.low_without is.high_without bare is.statistic in
    let own = is.statistic in
    let even = solved_balanced other gap sweeps own.solved own.price own.flows own.solution in
    subst (λ (o : Option ℤ). IfSome o (λ (h : ℤ). test.low ≤ℤ h)) (sym is.high_is)
    (subst (λ (l : ℤ). IfSome (drop_high stage.high is.low_without) (λ (h : ℤ). l ≤ℤ h)) (sym is.low_is)
    (by_ends stage.low is.low_without stage.high is.high_without (statistic_order stage certified)
    (without_order g stream (printed_flows stage) own.flows is.low_without stage.high is.high_without limits certified.shown.balanced certified.most ends)
    (ends_order other own.flows is.low_without is.high_without bare even ends)))

-- ---- all of them
some_at : (xs : List ℕ) (k : ℕ) → k < length xs → (x : ℕ) × (slice_get xs k ≡ Some x)
some_at [] k lt = absurd (omega (arith, lt))
some_at (x ∷ xs) zero lt = (x, refl)
some_at (x ∷ xs) (suc k) lt = some_at xs k (omega (arith, lt))

tests_order : EndsLaw → (options : Options) (critical : Critical) (stage : Stage) (o : Option Tests) → IsCertifiedStage stage
    → IfSome o (AreTestsOf stage.graph options critical stage) → IfSome o (λ (tests : Tests). All IsDropInOrder tests.measure)
tests_order ends_law options critical stage None certified are = tt
tests_order ends_law options critical stage (Some tests) certified are = λ k d lt.
    let (stream, there) = some_at (redundant_streams stage.streams) k (omega (arith, lt, are.measure.each)) in
    test_order ends_law stage options.gap options.sweeps critical.measure stream (get_or tests.measure k d) certified
    (are.measure.right k stream (get_or tests.measure k d) there (slice_get-get_or tests.measure k d lt))

pub drop_order : CertifiedLaw → EndsLaw → DropOrderLaw
drop_order certified_law ends_law graph options critical study limits is = λ k d lt.
    let stage = get_or study.stages k d in
    let of = is.rounds.each k stage (slice_get-get_or study.stages k d lt) in
    let certified = certified_law graph options critical study limits is k d lt in
    tests_order ends_law options critical stage stage.tests certified
    (subst (λ (g : ProcessGraph). IfSome stage.tests (AreTestsOf g options critical stage)) (sym of.reconciled.graph_is) of.tests)
