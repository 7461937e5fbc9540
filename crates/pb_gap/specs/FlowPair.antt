-- Statement. The flows of a graph together with the dual flows of prices: the gap, the bounds and the statistic follow from these.
use Rattle.std.specs.Prelude.{◌≡◌, ◌≤◌, ℕ, ℤ, List, All, length, unsigned_abs}
use Rattle.pb_limits.specs.Limits.{most_streams}
use Rattle.pb_graph.specs.declared.records.Stream.{Stream}
use Rattle.pb_graph.specs.ProcessGraph.{ProcessGraph, IsWithinLimits}
use Rattle.pb_graph.specs.WellFormed.{IsFlow}
use Rattle.pb_dual.specs.DualValue.{dual_flows_of, most_dual_flow}
use Rattle.pb_gap.specs.Gap.{standard_deviations_of}

-- a graph with a dual flow and a flow for each stream
pub record PairedFlows : Type 0 where
  pub graph : ProcessGraph
  pub dual_flows : List ℤ
  pub flows : List ℤ

-- the dual flows are those at the prices of the nodes
abbrev pub AreOfPrices : (ℕ → ℤ) → PairedFlows → Type 0
AreOfPrices price pair = pair.dual_flows ≡ dual_flows_of price pair.graph.streams

-- streams within their limits, with a standard deviation and a flow for each
pub record AreMeasured (streams : List Stream) (standard_deviations flows : List ℤ) : Type 0 where
  pub few : length streams ≤ most_streams
  pub limits : All IsWithinLimits streams
  pub roots : standard_deviations ≡ standard_deviations_of streams
  pub each : length flows ≡ length streams
  pub small : All IsFlow flows

-- a dual flow for each stream
pub record AreDualFlows (streams : List Stream) (dual_flows : List ℤ) : Type 0 where
  pub each : length dual_flows ≡ length streams
  pub small : All (λ flow. unsigned_abs flow ≤ most_dual_flow) dual_flows

-- what a pair keeps
pub record ArePaired (graph : ProcessGraph) (standard_deviations dual_flows flows : List ℤ) : Type 0 where
  pub measured : AreMeasured graph.streams standard_deviations flows
  pub duals : AreDualFlows graph.streams dual_flows
