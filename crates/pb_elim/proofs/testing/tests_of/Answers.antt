use Rattle.std.proofs.Common.{◌≡◌, ◌∙◌, ◌<◌, ℕ, List, length, All, FitsSigned, sym, ap, subst, arith}
use Rattle.std.specs.Prelude.{◌==◌, IfSome, None, if◌then◌else◌}
use Rattle.std.specs.Int.{w128}
use Rattle.std.proofs.lemmas.Int.{ints, to_z-of_z}
use Rattle.pb_study.specs.declared.results.CriticalRow.{CriticalRow}
use Rattle.pb_study.specs.declared.results.GlobalTest.{GlobalTest}
use Rattle.pb_study.specs.declared.results.StreamResult.{StreamResult}
use Rattle.pb_graph.specs.ProcessGraph.{ProcessGraph}
use Rattle.pb_study.specs.WellFormed.{IsMeasureWithin, IsWide}
use Rattle.pb_stage.specs.Verdicts.{critical_for}
use Rattle.pb_stage.specs.StageTests.{redundant_streams}
use Rattle.pb_elim.proofs.StageLemmas.{global_within, redundant_within, solved_statistic}
use Rattle.pb_elim.proofs.testing.tests_of.Goals as goal

pub redundant_streams-requires : goal.redundant_streams-requires
redundant_streams-requires c = omega (arith, ap (λ (xs : List StreamResult). length xs) c.as_slice-results.ensures, c.requires.formed.each_stream, c.requires.graph.few_streams)

pub measure_tests-requires-clause-streams : goal.measure_tests-requires-clause-streams
measure_tests-requires-clause-streams c =
    let n = length c.args.graph.now.streams in
    let each : length c.args.stage.now.streams ≡ n = c.requires.formed.each_stream ∙ ap (λ (g : ProcessGraph). length g.streams) c.requires.stage.graph_is in
    let is = c.as_slice-streams.ensures ∙ c.in_ok-redundant.ensures ∙ ap redundant_streams c.as_slice-results.ensures in
    subst (λ (xs : List ℕ). All (λ (k : ℕ). k < n) xs) (sym is) (redundant_within c.args.stage.now.streams n each)

pub measure_tests-requires-clause-statistic : goal.measure_tests-requires-clause-statistic
measure_tests-requires-clause-statistic c =
    let fits : FitsSigned w128 c.args.stage.now.low = omega (arith, ints, c.requires.formed.low) in
    simp to_z-of_z (solved_statistic c.args.graph.now c.args.options.now c.args.stage.now c.requires.stage)

pub returns-clause-within : goal.returns-clause-within
returns-clause-within c =
    let low = c.args.stage.now.low in
    let high = c.args.stage.now.high in
    let fits : FitsSigned w128 low = omega (arith, ints, c.requires.formed.low) in
    let within : IsWide low → IfSome high IsWide → All (IsMeasureWithin c.args.graph.now) c.in_ok-measure.measure = simp to_z-of_z at c.in_ok-measure.ensures.within in
    record {
      overall = global_within c.args.critical.now c.args.stage.now.dof c.global_test-global.result.critical c.requires.critical
          (ap (λ (t : GlobalTest). t.critical) c.global_test-global.ensures ∙ ap (λ (rows : List CriticalRow). if c.args.stage.now.dof == 0 then None else critical_for c.args.stage.now.dof rows) c.as_slice-rows.ensures);
      nodal = c.in_ok-nodal.ensures.within;
      measure = within c.requires.formed.low c.requires.formed.high;
    }
