-- A stage of a study is shown, and its prices and flows are the solution of its graph.
use Rattle.std.proofs.Common.{◌≡◌, ◌∙◌, ℕ, ℤ, List, take, Option, Some, None, get_or, sym, subst}
use Rattle.std.specs.Prelude.{IfSome}
use Rattle.std.proofs.lemmas.List.{length-map}
use Rattle.std.proofs.lemmas.Option.{slice_get-get_or}
use Rattle.pb_graph.specs.declared.records.Classified.{Classified}
use Rattle.pb_study.specs.declared.results.Solved.{Solved}
use Rattle.pb_study.specs.declared.results.Solved.TheVariants.{Converged, Unconverged}
use Rattle.pb_study.specs.declared.results.StreamResult.{StreamResult}
use Rattle.pb_study.specs.declared.results.Tests.{Tests}
use Rattle.pb_study.specs.declared.results.Stage.{Stage}
use Rattle.pb_study.specs.declared.results.Options.{Options}
use Rattle.pb_study.specs.declared.results.Critical.{Critical}
use Rattle.pb_graph.specs.ProcessGraph.{ProcessGraph, IsProcessGraph}
use Rattle.pb_graph.specs.Prices.{PricesFit}
use Rattle.pb_dual.specs.Laws.{AscentLaw}
use Rattle.pb_gap.specs.State.{IsStateAfter}
use Rattle.pb_gap.specs.Solution.{IsSolution}
use Rattle.pb_stage.specs.Printed.{printed_price, printed_flows}
use Rattle.pb_stage.specs.StageTests.{AreTestsOf}
use Rattle.pb_elim.specs.Reconciled.{IsReconciled}
use Rattle.pb_elim.specs.Stage.{IsStageOf}
use Rattle.pb_elim.specs.Study.{without_taken}
use Rattle.pb_stage.specs.Certified.{AreShownTests, IsShownStage}
use Rattle.pb_stage.specs.Laws.{ShownLaw}
use Rattle.pb_elim.specs.Laws.{CertifiedLaw, SolutionLaw}
use Rattle.pb_elim.proofs.ListLemmas.{at_map}
use Rattle.pb_elim.proofs.TakenLemmas.{without_limits}
use Rattle.pb_elim.proofs.TestLemmas.{tests_shown}
use Rattle.pb_elim.proofs.ReconciledLemmas.{parts_of}

-- a solution is the state after some number of sweeps
pub state_of : (g : ProcessGraph) (gap sweeps : ℕ) (solved : Solved) (price : ℕ → ℤ) (flows : List ℤ) → IsSolution g gap sweeps solved price flows
    → (k : ℕ) × IsStateAfter g k price flows
state_of g gap sweeps (Converged k) price flows is = (k, is.here.state)
state_of g gap sweeps (Unconverged k) price flows is = (k, is.here)

-- the prices of a state fit
pub state_fits : AscentLaw → (g : ProcessGraph) (k : ℕ) (price : ℕ → ℤ) (flows : List ℤ) → IsProcessGraph g → IsStateAfter g k price flows → PricesFit g price
state_fits ascent g k price flows limits is = subst (PricesFit g) (sym is.swept) (ascent g is.group k limits is.groups).fit

-- the reconciliation of the stage's graph
pub own_stage : (g : ProcessGraph) (options : Options) (stage : Stage) → IsReconciled g options stage → IsReconciled stage.graph options stage
own_stage g options stage is = subst (λ (h : ProcessGraph). IsReconciled h options stage) (sym is.graph_is) is

-- tests, if there are tests
shown_if : (g : ProcessGraph) (options : Options) (critical : Critical) (stage : Stage) (o : Option Tests) → stage.graph ≡ g → IfSome o (AreTestsOf g options critical stage)
    → IfSome o (AreShownTests stage)
shown_if g options critical stage None graph_is are = tt
shown_if g options critical stage (Some tests) graph_is are = tests_shown g options critical stage tests graph_is are

stage_shown : AscentLaw → (g : ProcessGraph) (options : Options) (critical : Critical) (stage : Stage) → IsProcessGraph g → IsStageOf g options critical stage → IsShownStage stage
stage_shown ascent h options critical stage within whole =
    let g = stage.graph in
    let is = own_stage h options stage (parts_of h options stage whole.reconciled) in
    let limits : IsProcessGraph g = subst IsProcessGraph (sym whole.reconciled.graph_is) within in
    let price = printed_price stage in
    let flows = printed_flows stage in
    let classified : StreamResult → Classified = λ r. r.classified in
    let (k, state) = state_of g options.gap options.sweeps stage.solved price flows is.solution in
    record {
      limits = limits;
      each = sym (length-map stage.streams classified) ∙ is.classes.each;
      shown = λ j r at. (is.classes.right j r.classified (at_map classified stage.streams j r at)).certified;
      balanced = state.rounded.balanced;
      priced = is.priced;
      fit = state_fits ascent g k price flows limits state;
      numbers = whole.reconciled.numbers;
      tests = shown_if h options critical stage stage.tests whole.reconciled.graph_is whole.tests;
    }

pub certified_by : AscentLaw → ShownLaw → CertifiedLaw
certified_by ascent shown g options critical study limits is = λ k d lt.
    let stage = get_or study.stages k d in
    let at = slice_get-get_or study.stages k d lt in
    let within = without_limits g (take k study.taken) limits in
    shown stage (stage_shown ascent (without_taken g (take k study.taken)) options critical stage within (is.rounds.each k stage at))

pub solution : SolutionLaw
solution g options critical study is = λ k d lt.
    let stage = get_or study.stages k d in
    let at = slice_get-get_or study.stages k d lt in
    let h = without_taken g (take k study.taken) in
    (own_stage h options stage (parts_of h options stage (is.rounds.each k stage at).reconciled)).solution
