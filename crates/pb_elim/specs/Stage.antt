-- Statement. The stage of a graph.
use Rattle.std.specs.Prelude.{◌≡◌, length, is_some, IfSome}
use Rattle.pb_study.specs.declared.results.Stage.{Stage}
use Rattle.pb_study.specs.declared.results.Options.{Options}
use Rattle.pb_study.specs.declared.results.Critical.{Critical}
use Rattle.pb_graph.specs.ProcessGraph.{ProcessGraph}
use Rattle.pb_classify.specs.Classification.{IsClassification}
use Rattle.pb_gap.specs.Solution.{IsSolution}
use Rattle.pb_stage.specs.Printed.{printed_price, printed_flows, printed_classes, EachStream}
use Rattle.pb_stage.specs.Certified.{AreNumbersOf, found_least}
use Rattle.pb_stage.specs.StageTests.{AreTestsOf}

-- The reconciliation of a graph, which is its stage except for the tests: each stream's class with its canonical certificate; the
-- solution of the graph, which gives prices and flows; and the numbers that follow from these, with least bounds for each stream that has
-- bounds (Narasimhan and Jordache, on steady linear reconciliation).
pub record IsReconciliationOf (graph : ProcessGraph) (options : Options) (stage : Stage) : Type 0 where
  pub graph_is : stage.graph ≡ graph
  pub classes : IsClassification graph (printed_classes stage)
  pub priced : length stage.prices ≡ graph.nodes
  pub solution : IsSolution graph options.gap options.sweeps stage.solved (printed_price stage) (printed_flows stage)
  pub numbers : AreNumbersOf stage
  pub least : EachStream stage (λ j r. r.least ≡ found_least stage j r)

-- The stage of a graph: its reconciliation, and tests exactly when they are asked for.
pub record IsStageOf (graph : ProcessGraph) (options : Options) (critical : Critical) (stage : Stage) : Type 0 where
  pub reconciled : IsReconciliationOf graph options stage
  pub asked : is_some stage.tests ≡ options.tests
  pub tests : IfSome stage.tests (AreTestsOf graph options critical stage)
