-- A study is well formed by its definition: each number of a stage is within its range.
use Rattle.std.proofs.Common.{◌≡◌, ◌∙◌, ℕ, zero, suc, ◌^◌, ◌<◌, ℤ, pos, ◌-ℤ◌, ◌≤ℤ◌, Bool, true, false, List, [], ◌∷◌, length, take, Option, Some, None, slice_get, get_or, All, sym, ap, subst, arith}
use Rattle.std.specs.Prelude.{IfSome, option_map, if◌then◌else◌}
use Rattle.std.specs.Int.{int_max}
use Rattle.std.proofs.lemmas.Int.{ints}
use Rattle.std.proofs.lemmas.List.{get_or_default, length-map}
use Rattle.std.proofs.lemmas.List.Elements.{All-nil, All-cons, All-append}
use Rattle.std.proofs.lemmas.Option.{slice_get-get_or, slice_get_within}
use Rattle.pb_limits.specs.Ranges.{IsCriticalValue}
use Rattle.pb_fixed.proofs.Lists.{all_each}
use Rattle.pb_forest.proofs.ForestLaws.{few_held_law}
use Rattle.pb_graph.specs.declared.records.Stream.{Stream}
use Rattle.pb_graph.specs.declared.records.Member.{Member}
use Rattle.pb_study.specs.declared.results.Bounds.{Bounds}
use Rattle.pb_study.specs.declared.results.StreamResult.{StreamResult}
use Rattle.pb_study.specs.declared.results.GlobalTest.{GlobalTest}
use Rattle.pb_study.specs.declared.results.NodalTest.{NodalTest}
use Rattle.pb_study.specs.declared.results.MeasureTest.{MeasureTest}
use Rattle.pb_study.specs.declared.results.Tests.{Tests}
use Rattle.pb_study.specs.declared.results.Stage.{Stage}
use Rattle.pb_study.specs.declared.results.Taken.{Taken}
use Rattle.pb_study.specs.declared.results.Options.{Options}
use Rattle.pb_study.specs.declared.results.Critical.{Critical}
use Rattle.pb_graph.specs.ProcessGraph.{ProcessGraph, IsProcessGraph}
use Rattle.pb_graph.specs.Prices.{PricesFit}
use Rattle.pb_graph.specs.Groups.{group_count, is_free_group}
use Rattle.pb_study.specs.WellFormed.{AreBoundsWithin, AreTestsWithin, HasShapeOf, IsMeasureWithin, IsNodalWithin, IsResultWithin, IsTakenWithin, IsWellFormed, IsWide}
use Rattle.pb_graph.specs.WellFormed.{IsFlow, IsPrice}
use Rattle.pb_graph.proofs.CertificateLemmas.{witness_within}
use Rattle.pb_dual.specs.Laws.{AscentLaw}
use Rattle.pb_gap.specs.declared.gap.Gap.{Gap}
use Rattle.pb_gap.specs.Gap.{gap_of}
use Rattle.pb_gap.specs.Bounds.{bounds_of}
use Rattle.pb_gap.specs.StreamBounds.{stream_bounds, sum_for}
use Rattle.pb_gap.specs.LeastBounds.{least_bounds_of, stream_least_bounds}
use Rattle.pb_gap.specs.State.{AreRoundedFlows}
use Rattle.pb_gap.specs.Statistic.{low_of}
use Rattle.pb_gap.specs.Solution.{IsSolvedStatistic}
use Rattle.pb_gap.specs.Laws.{StreamSumLaw, SumsTo}
use Rattle.pb_gap.specs.RangeLaws.{AreNumbersWithin, IsEnd, RangeLaw}
use Rattle.pb_gap.specs.LeastBoundsLaws.{LeastRangeLaw}
use Rattle.pb_stage.specs.Nodal.{AreNodalTests, nodal_test, nodal_tests_below, test_of_group}
use Rattle.pb_stage.specs.Drop.{AreMeasureTests, drop_high, drop_low, without_measurement}
use Rattle.pb_stage.specs.Laws.{FreeGroupsLaw, NodalRangeLaw}
use Rattle.pb_study.specs.Options.{AreOptions}
use Rattle.pb_study.specs.Criticals.{AreCritical}
use Rattle.pb_stage.specs.Printed.{printed_price, printed_flows}
use Rattle.pb_stage.specs.StageTests.{AreTestsOf, redundant_streams}
use Rattle.pb_elim.specs.Reconciled.{IsReconciled}
use Rattle.pb_elim.specs.Stage.{IsStageOf}
use Rattle.pb_elim.specs.Study.{without_taken}
use Rattle.pb_elim.specs.Laws.{FormedLaw}
use Rattle.pb_elim.proofs.ListLemmas.{at_map, some_at}
use Rattle.pb_elim.proofs.TakenLemmas.{unmeasured_limits, without_limits, without_nodes, without_streams}
use Rattle.pb_elim.proofs.FormedLemmas.{taken_within}
use Rattle.pb_elim.proofs.SolutionLemmas.{own_stage, state_fits, state_of}
use Rattle.pb_elim.proofs.StageLemmas.{global_within, redundant_within, sweeps_within}
use Rattle.pb_elim.proofs.ReconciledLemmas.{parts_of}

-- what the laws below give
pub record RangeLaws : Type 0 where
  pub ascent : AscentLaw
  pub range : RangeLaw
  pub least_range : LeastRangeLaw
  pub sums : StreamSumLaw
  pub free : FreeGroupsLaw
  pub nodal : NodalRangeLaw

-- ---- the reconciliation
-- prices that fit, the flows that belong to them, and their numbers within the ranges
record IsFitted (g : ProcessGraph) (price : ℕ → ℤ) (flows : List ℤ) : Type 0 where
  limits : IsProcessGraph g
  fit : PricesFit g price
  rounded : AreRoundedFlows g price flows
  within : AreNumbersWithin g price flows

fitted : RangeLaws → (options : Options) (stage : Stage) → IsProcessGraph stage.graph → IsReconciled stage.graph options stage
    → IsFitted stage.graph (printed_price stage) (printed_flows stage)
fitted laws options stage limits is =
    let g = stage.graph in
    let (k, state) = state_of g options.gap options.sweeps stage.solved (printed_price stage) (printed_flows stage) is.solution in
    let fit = state_fits laws.ascent g k (printed_price stage) (printed_flows stage) limits state in
    record { limits = limits; fit = fit; rounded = state.rounded; within = laws.range g (printed_price stage) (printed_flows stage) limits fit state.rounded }

prices_within : (stage : Stage) → PricesFit stage.graph (printed_price stage) → length stage.prices ≡ stage.graph.nodes → All IsPrice stage.prices
prices_within stage fit priced = λ n d lt. subst IsPrice (sym (get_or_default stage.prices n d (pos 0) lt)) (fit.within n (omega (arith, lt, priced)))

-- bounds of a signed sum, if there is one
bounds_if : (g : ProcessGraph) (price : ℕ → ℤ) (flows : List ℤ) (j : ℕ) (o : Option (List Member)) → IsFitted g price flows → IfSome o (SumsTo g j)
    → IfSome (option_map (bounds_of price g.streams (gap_of price g.streams flows)) o) AreBoundsWithin
bounds_if g price flows j None fitted sums = tt
bounds_if g price flows j (Some members) fitted sums = fitted.within.bounds members sums.signed

-- and its least bounds
least_if : RangeLaws → (g : ProcessGraph) (price : ℕ → ℤ) (flows : List ℤ) (j : ℕ) (o : Option (List Member)) → IsFitted g price flows → IfSome o (SumsTo g j)
    → IfSome (option_map (least_bounds_of price g.streams flows (gap_of price g.streams flows)) o) AreBoundsWithin
least_if laws g price flows j None fitted sums = tt
least_if laws g price flows j (Some members) fitted sums = laws.least_range g price flows members fitted.limits fitted.fit fitted.rounded sums.signed

result_within : RangeLaws → (options : Options) (stage : Stage) (j : ℕ) (r : StreamResult) → IsReconciled stage.graph options stage
    → IsFitted stage.graph (printed_price stage) (printed_flows stage) → slice_get stage.streams j ≡ Some r → IsResultWithin stage.graph r
result_within laws options stage j r is fitted at =
    let g = stage.graph in
    let price = printed_price stage in
    let flows = printed_flows stage in
    let certified = (is.classes.right j r.classified (at_map (λ (r : StreamResult). r.classified) stage.streams j r at)).certified in
    let sum = sum_for j r.classified.class r.classified.witness in
    let sums : IfSome sum (SumsTo g j) = laws.sums g j r.classified fitted.limits certified in
    let bounds : IfSome (stream_bounds price g.streams (gap_of price g.streams flows) j r.classified) AreBoundsWithin = bounds_if g price flows j sum fitted sums in
    let least : IfSome (stream_least_bounds price g.streams flows (gap_of price g.streams flows) j r.classified) AreBoundsWithin = least_if laws g price flows j sum fitted sums in
    let same = is.bounds j r at ∙ ap (λ (gap : Gap). stream_bounds price g.streams gap j r.classified) is.gap in
    let least_same = is.least j r at ∙ ap (λ (gap : Gap). stream_least_bounds price g.streams flows gap j r.classified) is.gap in
    record {
      witness = witness_within g j r.classified certified;
      flow = all_each IsFlow flows fitted.within.each_flow j r.flow (at_map (λ (r : StreamResult). r.flow) stage.streams j r at);
      bounds = subst (λ (o : Option Bounds). IfSome o AreBoundsWithin) (sym same) bounds;
      least = subst (λ (o : Option Bounds). IfSome o AreBoundsWithin) (sym least_same) least;
    }

-- ---- nodal tests
-- each test has the critical value that is given
critical_if : (b : Bool) (test : NodalTest) → IfSome test.critical IsCriticalValue → All (λ (t : NodalTest). IfSome t.critical IsCriticalValue) (if b then test ∷ [] else [])
critical_if true test is = All-cons (λ (t : NodalTest). IfSome t.critical IsCriticalValue) test [] is (All-nil (λ (t : NodalTest). IfSome t.critical IsCriticalValue))
critical_if false test is = All-nil (λ (t : NodalTest). IfSome t.critical IsCriticalValue)

critical_below : (group : List ℕ) (ss : List Stream) (critical : Option ℤ) (k : ℕ) → IfSome critical IsCriticalValue
    → All (λ (t : NodalTest). IfSome t.critical IsCriticalValue) (nodal_tests_below group ss critical k)
critical_below group ss critical zero within = All-nil (λ (t : NodalTest). IfSome t.critical IsCriticalValue)
critical_below group ss critical (suc k) within =
    All-append (λ (t : NodalTest). IfSome t.critical IsCriticalValue) (nodal_tests_below group ss critical k) (test_of_group group ss critical k) (critical_below group ss critical k within)
    (critical_if (is_free_group group ss k) (nodal_test group ss critical k) within)

nodal_within : RangeLaws → (g : ProcessGraph) (critical : Option ℤ) (tests : List NodalTest) → IsProcessGraph g → IfSome critical IsCriticalValue → AreNodalTests g critical tests
    → All (IsNodalWithin g) tests
nodal_within laws g critical tests limits within are = λ k d lt.
    let number = laws.nodal g critical tests limits are k d lt in
    let free = (laws.free g critical tests limits are).each k d lt in
    let values = subst (All (λ (t : NodalTest). IfSome t.critical IsCriticalValue)) (sym are.tested) (critical_below are.group g.streams critical (group_count are.group) within) in
    record {
      node = free.node;
      net = omega (arith, number.net);
      variance = omega (arith, ints, number.positive, number.variance);
      critical = values k d lt;
    }

-- ---- tests of measurements
low_drop : (low : ℤ) (high : Option ℤ) → IsEnd low → IfSome high IsEnd → IsWide (drop_low low high)
low_drop low None end ends = omega arith
low_drop low (Some high) end ends = max_within (low -ℤ high) (omega (arith, ints, end.wide, ends.least))
  where
    max_within : (x : ℤ) → x ≤ℤ pos (2 ^ 126) → IsWide (int_max (pos 0) x)
    max_within x most = grind (arith, ints, most)

high_drop : (high : Option ℤ) (low : ℤ) → IfSome high IsEnd → IsEnd low → IfSome (drop_high high low) IsWide
high_drop None low ends end = tt
high_drop (Some high) low ends end = omega (arith, ints, ends.least, ends.wide, end.least, end.wide)

-- the ends of the statistic of a solved graph
record AreEndsWithin (low : ℤ) (high : Option ℤ) : Type 0 where
  low_end : IsEnd low
  high_end : IfSome high IsEnd

solved_within : RangeLaws → (g : ProcessGraph) (gap sweeps : ℕ) (low : ℤ) (high : Option ℤ) → IsProcessGraph g → IsSolvedStatistic g gap sweeps low high → AreEndsWithin low high
solved_within laws g gap sweeps low high limits is =
    let (k, state) = state_of g gap sweeps is.solved is.price is.flows is.solution in
    let within = laws.range g is.price is.flows limits (state_fits laws.ascent g k is.price is.flows limits state) state.rounded in
    record {
      low_end = subst IsEnd (sym is.is_low) within.low;
      high_end = subst (λ (o : Option ℤ). IfSome o IsEnd) (sym is.is_high) within.high;
    }

measures_within : RangeLaws → (g : ProcessGraph) (options : Options) (critical : Option ℤ) (stage : Stage) (tests : List MeasureTest) → IsProcessGraph g → AreEndsWithin stage.low stage.high
    → IfSome critical IsCriticalValue → length stage.streams ≡ length g.streams
    → AreMeasureTests g options.gap options.sweeps stage.low stage.high critical (redundant_streams stage.streams) tests → All (IsMeasureWithin g) tests
measures_within laws g options critical stage tests limits ends within each are = λ k d lt.
    let test = get_or tests k d in
    let streams = redundant_streams stage.streams in
    let (stream, there) = some_at streams k (omega (arith, lt, are.each)) in
    let is = are.right k stream test there (slice_get-get_or tests k d lt) in
    let stream_within = all_each (λ (n : ℕ). n < length g.streams) streams (redundant_within stage.streams (length g.streams) each) k stream there in
    let without = solved_within laws (without_measurement stream g) options.gap options.sweeps is.low_without is.high_without (unmeasured_limits g stream limits) is.statistic in
    record {
      stream = omega (arith, stream_within, is.stream_is);
      low = subst IsWide (sym is.low_is) (low_drop stage.low is.high_without ends.low_end without.high_end);
      high = subst (λ (o : Option ℤ). IfSome o IsWide) (sym is.high_is) (high_drop stage.high is.low_without ends.high_end without.low_end);
      critical = subst (λ (o : Option ℤ). IfSome o IsCriticalValue) (sym is.critical_is) within;
    }

-- ---- a stage
tests_within : RangeLaws → (g : ProcessGraph) (options : Options) (critical : Critical) (stage : Stage) (o : Option Tests) → IsProcessGraph g → AreCritical critical
    → AreEndsWithin stage.low stage.high → length stage.streams ≡ length g.streams → IfSome o (AreTestsOf g options critical stage) → IfSome o (AreTestsWithin g)
tests_within laws g options critical stage None limits values ends each are = tt
tests_within laws g options critical stage (Some tests) limits values ends each are = record {
  overall = global_within critical stage.dof tests.global.critical values (ap (λ (t : GlobalTest). t.critical) are.overall);
  nodal = nodal_within laws g critical.nodal tests.nodal limits values.nodal are.nodal;
  measure = measures_within laws g options critical.measure stage tests.measure limits ends values.measure each are.measure;
}

high_wide : (o : Option ℤ) → IfSome o IsEnd → IfSome o IsWide
high_wide None is = tt
high_wide (Some x) is = is.wide

stage_within : RangeLaws → (h : ProcessGraph) (options : Options) (critical : Critical) (stage : Stage) → IsProcessGraph h → AreOptions options → AreCritical critical
    → IsStageOf h options critical stage → IsWellFormed stage
stage_within laws h options critical stage limits asked values whole =
    let g = stage.graph in
    let graph_is = whole.reconciled.graph_is in
    let is = own_stage h options stage (parts_of h options stage whole.reconciled) in
    let here : IsProcessGraph g = subst IsProcessGraph (sym graph_is) limits in
    let of = fitted laws options stage here is in
    let within = of.within in
    let each : length stage.streams ≡ length g.streams = sym (length-map stage.streams (λ (r : StreamResult). r.classified)) ∙ is.classes.each in
    let low : IsEnd stage.low = subst IsEnd (sym (is.low ∙ ap (low_of g.streams (printed_flows stage)) is.gap)) within.low in
    let high : IfSome stage.high IsEnd = subst (λ (o : Option ℤ). IfSome o IsEnd) (sym is.high) within.high in
    let most = few_held_law g is.freedom.held here is.freedom.forest in
    let tests = tests_within laws h options critical stage stage.tests limits values (record { low_end = low; high_end = high })
    (each ∙ ap (λ (g : ProcessGraph). length g.streams) graph_is) whole.tests in
    record {
      each_price = is.priced;
      each_stream = each;
      results = λ j d lt. result_within laws options stage j (get_or stage.streams j d) is of (slice_get-get_or stage.streams j d lt);
      prices = prices_within stage of.fit is.priced;
      sweeps = sweeps_within g options.gap options.sweeps stage.solved (printed_price stage) (printed_flows stage) is.solution asked.greatest_sweeps;
      g = omega (arith, within.gap.most_g, ap (λ (gap : Gap). gap.g) is.gap);
      h = omega (arith, within.gap.most_h, ap (λ (gap : Gap). gap.h) is.gap);
      dof = omega (arith, is.freedom.count, most, here.few_nodes);
      low = low.wide;
      high = high_wide stage.high high;
      tests = subst (λ (g : ProcessGraph). IfSome stage.tests (AreTestsWithin g)) (sym graph_is) tests;
    }

-- ---- a study
pub formed_by : RangeLaws → FormedLaw
formed_by laws graph options critical study limits asked values is =
    let at : ℕ → ProcessGraph = λ k. without_taken graph (take k study.taken) in
    let formed : (k : ℕ) (stage : Stage) → slice_get study.stages k ≡ Some stage → IsWellFormed stage = λ k stage here.
    stage_within laws (at k) options critical stage (without_limits graph (take k study.taken) limits) asked values (is.rounds.each k stage here) in
    let shape : (k : ℕ) (stage : Stage) → slice_get study.stages k ≡ Some stage → HasShapeOf graph stage = λ k stage here.
    let same = (is.rounds.each k stage here).reconciled.graph_is in
    record {
      nodes = ap (λ (g : ProcessGraph). g.nodes) same ∙ without_nodes graph (take k study.taken);
      streams = ap (λ (g : ProcessGraph). length g.streams) same ∙ without_streams graph (take k study.taken);
    } in
    let taken : (k : ℕ) (t : Taken) → slice_get study.taken k ≡ Some t → IsTakenWithin graph t = λ k t there.
    let lt = slice_get_within study.taken k t there in
    let (stage, here) = some_at study.stages k (omega (arith, lt, is.rounds.between)) in
    let within = taken_within stage.graph options critical k stage.tests t (formed k stage here).tests (is.rounds.suspects k stage t here there) in
    record { stream = omega (arith, within.stream, (shape k stage here).streams); low = within.low } in
    record {
      stages = λ k d lt. formed k (get_or study.stages k d) (slice_get-get_or study.stages k d lt);
      shapes = λ k d lt. shape k (get_or study.stages k d) (slice_get-get_or study.stages k d lt);
      between = is.rounds.between;
      each_taken = λ k d lt. taken k (get_or study.taken k d) (slice_get-get_or study.taken k d lt);
    }
