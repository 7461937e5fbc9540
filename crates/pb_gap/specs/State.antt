-- Statement. The state of a graph after some sweeps: the price of each group, and the flows that belong to the prices.
use Rattle.std.specs.Prelude.{◌≡◌, ℕ, Bool, ℤ, pos, List, map, get_or}
use Rattle.pb_fixed.specs.Quotients.{nearest_div}
use Rattle.pb_graph.specs.declared.records.Stream.{Stream}
use Rattle.pb_graph.specs.ProcessGraph.{ProcessGraph, IsProcessGraph}
use Rattle.pb_graph.specs.Balance.{IsBalanced}
use Rattle.pb_graph.specs.Groups.{AreGroups, group_at}
use Rattle.pb_graph.specs.Prices.{PricesFit}
use Rattle.pb_forest.specs.Forest.{IsForest}
use Rattle.pb_forest.specs.Flows.{AgreeOffForest}
use Rattle.pb_dual.specs.DualValue.{scale, dual_flows_of}
use Rattle.pb_dual.specs.Sweeps.{prices_after}
use Rattle.pb_gap.specs.Gap.{Gap, gap_of}

-- dual flows, each to the nearest gram
abbrev pub nearest_grams : List ℤ → List ℤ
nearest_grams dual_flows = map (λ flow. nearest_div flow scale) dual_flows

-- the dual flow of each stream, to the nearest gram; 0 if the stream is unmeasured
abbrev pub nearest_flows : (ℕ → ℤ) → List Stream → List ℤ
nearest_flows price streams = nearest_grams (dual_flows_of price streams)

-- The flows that belong to prices: they balance, and each stream outside the spanning forest has its dual flow to the nearest gram.
pub record AreRoundedFlows (g : ProcessGraph) (price : ℕ → ℤ) (flows : List ℤ) : Type 0 where
  pub held : List Bool
  pub forest : IsForest g.streams held
  pub balanced : IsBalanced g flows
  pub nearest : AgreeOffForest held flows (nearest_flows price g.streams)

-- a graph with the number of each node's group, the price of each group in units of 2^-56 per gram, and each stream's flow in grams
pub record State : Type 0 where
  pub graph : ProcessGraph
  pub group : List ℕ
  pub prices : List ℤ
  pub flows : List ℤ

-- the price of a node is the price of its group
abbrev pub price_in : State → ℕ → ℤ
price_in s n = get_or s.prices (group_at s.group n) (pos 0)

-- the gap between the flows and the prices
abbrev pub gap_in : State → Gap
gap_in s = gap_of (price_in s) s.graph.streams s.flows

-- the groups are those of the graph, the prices fit, and the flows belong to them
pub record IsState (s : State) : Type 0 where
  pub limits : IsProcessGraph s.graph
  pub groups : AreGroups s.graph s.group
  pub fit : PricesFit s.graph (price_in s)
  pub rounded : AreRoundedFlows s.graph (price_in s) s.flows

-- the prices of a graph after k sweeps from prices of 0, and the flows that belong to them
pub record IsStateAfter (g : ProcessGraph) (k : ℕ) (price : ℕ → ℤ) (flows : List ℤ) : Type 0 where
  pub group : List ℕ
  pub groups : AreGroups g group
  pub swept : price ≡ prices_after g group k
  pub rounded : AreRoundedFlows g price flows
