-- Inside. The flows of a stage together with the dual flows of its prices.
use Rattle.std.specs.Prelude.{◌≡◌}
use Rattle.pb_study.specs.declared.results.Stage.{Stage}
use Rattle.pb_gap.specs.FlowPair.{AreOfPrices, PairedFlows}
use Rattle.pb_stage.specs.Printed.{printed_flows, printed_price}

-- the printed flows, and the dual flows of the printed prices
pub record IsPairOf (stage : Stage) (pair : PairedFlows) : Type 0 where
  pub graph : pair.graph ≡ stage.graph
  pub flows : pair.flows ≡ printed_flows stage
  pub prices : AreOfPrices (printed_price stage) pair
