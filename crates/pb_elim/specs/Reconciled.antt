-- Inside. The reconciliation of a graph, each number by its rule.
use Rattle.std.specs.Prelude.{◌≡◌, length}
use Rattle.pb_study.specs.declared.results.Stage.{Stage}
use Rattle.pb_study.specs.declared.results.Options.{Options}
use Rattle.pb_graph.specs.ProcessGraph.{ProcessGraph}
use Rattle.pb_classify.specs.Classification.{IsClassification}
use Rattle.pb_gap.specs.Gap.{gap_of}
use Rattle.pb_gap.specs.StreamBounds.{stream_bounds}
use Rattle.pb_gap.specs.LeastBounds.{stream_least_bounds}
use Rattle.pb_gap.specs.Statistic.{low_of, high_of}
use Rattle.pb_gap.specs.Solution.{IsSolution}
use Rattle.pb_stage.specs.Printed.{printed_price, printed_flows, printed_classes, printed_gap, EachStream}
use Rattle.pb_stage.specs.Freedom.{HasFreedom}

-- the reconciliation of a graph, with what each number of it is
pub record IsReconciled (graph : ProcessGraph) (options : Options) (stage : Stage) : Type 0 where
  pub graph_is : stage.graph ≡ graph
  pub classes : IsClassification graph (printed_classes stage)
  pub priced : length stage.prices ≡ graph.nodes
  pub solution :
      IsSolution graph options.gap options.sweeps stage.solved (printed_price stage)
      (printed_flows stage)
  pub gap : printed_gap stage ≡ gap_of (printed_price stage) graph.streams (printed_flows stage)
  pub bounds :
      EachStream stage (λ j r. r.bounds
      ≡ stream_bounds (printed_price stage) graph.streams (printed_gap stage) j r.classified)
  pub least :
      EachStream stage (λ j r. r.least
      ≡ stream_least_bounds (printed_price stage) graph.streams (printed_flows stage)
      (printed_gap stage) j r.classified)
  pub freedom : HasFreedom graph.streams stage.dof
  pub low : stage.low ≡ low_of graph.streams (printed_flows stage) (printed_gap stage)
  pub high : stage.high ≡ high_of graph.streams (printed_flows stage)
