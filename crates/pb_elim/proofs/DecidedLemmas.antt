-- The decided tests of measurements are right.
use Rattle.std.proofs.Common.{◌≡◌, ◌≤ℤ◌, ℕ, ℤ, pos, take, All, Option, Some, None, get_or, refl, sym, subst, arith}
use Rattle.std.specs.Prelude.{IfSome, MatchOption}
use Rattle.std.proofs.lemmas.Option.{slice_get-get_or}
use Rattle.pb_limits.specs.Ranges.{IsCriticalValue}
use Rattle.pb_study.specs.declared.results.Verdict.{Verdict}
use Rattle.pb_study.specs.declared.results.Verdict.TheVariants.{Reject, Accept, Undecided, NoCritical, NoTest}
use Rattle.pb_study.specs.declared.results.MeasureTest.{MeasureTest}
use Rattle.pb_study.specs.declared.results.Tests.{Tests}
use Rattle.pb_study.specs.declared.results.Stage.{Stage}
use Rattle.pb_study.specs.declared.results.Options.{Options}
use Rattle.pb_study.specs.declared.results.Critical.{Critical}
use Rattle.pb_graph.specs.ProcessGraph.{ProcessGraph, IsProcessGraph}
use Rattle.pb_stage.specs.Drop.{IsMeasureTestOf, without_measurement}
use Rattle.pb_stage.specs.Laws.{MeasureAcceptLaw, MeasureRejectLaw}
use Rattle.pb_study.specs.Criticals.{AreCritical}
use Rattle.pb_stage.specs.StageTests.{AreTestsOf, redundant_streams}
use Rattle.pb_elim.specs.Reconciled.{IsReconciled}
use Rattle.pb_elim.specs.Stage.{IsStageOf}
use Rattle.pb_elim.specs.Study.{without_taken}
use Rattle.pb_stage.specs.Certified.{IsUndecided}
use Rattle.pb_elim.specs.Decided.{AreMeasuresRight, IsDropRight, IsMeasureRight}
use Rattle.pb_elim.specs.Laws.{DecidedLaw}
use Rattle.pb_elim.proofs.ListLemmas.{some_at}
use Rattle.pb_elim.proofs.SolutionLemmas.{state_of}
use Rattle.pb_elim.proofs.StageLemmas.{solved_statistic}
use Rattle.pb_elim.proofs.TakenLemmas.{without_limits}
use Rattle.pb_elim.proofs.ReconciledLemmas.{parts_of}

-- a test by a critical value, in the graph of its stage
drop_right : MeasureRejectLaw → MeasureAcceptLaw → (options : Options) (stage : Stage) (critical : ℤ) (stream : ℕ) (test : MeasureTest) (v : Verdict) → IsProcessGraph stage.graph
    → IsReconciled stage.graph options stage → pos 0 ≤ℤ critical → IsMeasureTestOf stage.graph options.gap options.sweeps stage.low stage.high (Some critical) stream test → test.verdict ≡ v
    → IsDropRight stage stream critical v
drop_right rejects accepts options stage critical stream test Reject limits is least of verdict =
    let solved = solved_statistic stage.graph options stage is in
    let other = of.statistic in
    let (k, state) = state_of (without_measurement stream stage.graph) options.gap options.sweeps other.solved other.price other.flows other.solution in
    (other.flows, state.rounded.balanced, λ x even. rejects stage.graph options.gap options.sweeps stage.low stage.high critical stream test x limits solved least of verdict even)
drop_right rejects accepts options stage critical stream test Accept limits is least of verdict =
    λ y even. accepts stage.graph options.gap options.sweeps stage.low stage.high critical stream test y limits (solved_statistic stage.graph options stage is) of verdict even
drop_right rejects accepts options stage critical stream test Undecided limits is least of verdict = tt
drop_right rejects accepts options stage critical stream test NoCritical limits is least of verdict = tt
drop_right rejects accepts options stage critical stream test NoTest limits is least of verdict = tt

measure_right : MeasureRejectLaw → MeasureAcceptLaw → (options : Options) (stage : Stage) (critical : Option ℤ) (stream : ℕ) (test : MeasureTest) → IsProcessGraph stage.graph
    → IsReconciled stage.graph options stage → IfSome critical IsCriticalValue → IsMeasureTestOf stage.graph options.gap options.sweeps stage.low stage.high critical stream test
    → IsMeasureRight stage test
measure_right rejects accepts options stage None stream test limits is least of =
    subst (λ (o : Option ℤ). MatchOption o (IsUndecided test.verdict) (λ critical. IsDropRight stage test.stream critical test.verdict)) (sym of.critical_is)
    (subst IsUndecided (sym of.verdict_is) tt)
measure_right rejects accepts options stage (Some critical) stream test limits is (least, most) of =
    subst (λ (o : Option ℤ). MatchOption o (IsUndecided test.verdict) (λ critical. IsDropRight stage test.stream critical test.verdict)) (sym of.critical_is)
    (subst (λ (j : ℕ). IsDropRight stage j critical test.verdict) (sym of.stream_is) (drop_right rejects accepts options stage critical stream test test.verdict limits is least of refl))

-- ---- the tests of a stage
measures_right : MeasureRejectLaw → MeasureAcceptLaw → (options : Options) (critical : Critical) (stage : Stage) (o : Option Tests) → IsProcessGraph stage.graph
    → IsReconciled stage.graph options stage → AreCritical critical → IfSome o (AreTestsOf stage.graph options critical stage) → IfSome o (λ tests. All (IsMeasureRight stage) tests.measure)
measures_right rejects accepts options critical stage None limits is within are = tt
measures_right rejects accepts options critical stage (Some tests) limits is within are = λ k d lt.
    let test = get_or tests.measure k d in
    let (stream, there) = some_at (redundant_streams stage.streams) k (omega (arith, lt, are.measure.each)) in
    measure_right rejects accepts options stage critical.measure stream test limits is within.measure (are.measure.right k stream test there (slice_get-get_or tests.measure k d lt))

stage_right : MeasureRejectLaw → MeasureAcceptLaw → (g : ProcessGraph) (options : Options) (critical : Critical) (stage : Stage) → IsProcessGraph g → AreCritical critical
    → IsStageOf g options critical stage → AreMeasuresRight stage
stage_right rejects accepts g options critical stage limits within is =
    let same = is.reconciled.graph_is in
    measures_right rejects accepts options critical stage stage.tests (subst IsProcessGraph (sym same) limits)
    (subst (λ (h : ProcessGraph). IsReconciled h options stage) (sym same) (parts_of g options stage is.reconciled)) within
    (subst (λ (h : ProcessGraph). IfSome stage.tests (AreTestsOf h options critical stage)) (sym same) is.tests)

pub decided_by : MeasureRejectLaw → MeasureAcceptLaw → DecidedLaw
decided_by rejects accepts g options critical study limits within is = λ k d lt.
    let stage = get_or study.stages k d in
    stage_right rejects accepts (without_taken g (take k study.taken)) options critical stage (without_limits g (take k study.taken) limits) within
    (is.rounds.each k stage (slice_get-get_or study.stages k d lt))
