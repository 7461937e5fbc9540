-- Inside. What a solver keeps with a state.
use Rattle.std.specs.Prelude.{◌≡◌, ◌<◌, ◌^◌, ℕ, ℤ, pos, ◌*ℤ◌, ◌≤ℤ◌, ◌<ℤ◌, List, length, get_or, take, All}
use Rattle.pb_fixed.specs.Sums.{item, sum_over}
use Rattle.pb_graph.specs.ProcessGraph.{ProcessGraph, IsProcessGraph}
use Rattle.pb_graph.specs.Balance.{IsBalanced}
use Rattle.pb_graph.specs.Groups.{AreGroups, group_count}
use Rattle.pb_graph.specs.Prices.{PricesFit}
use Rattle.pb_graph.specs.WellFormed.{IsFlow}
use Rattle.pb_forest.specs.Forest.{SpanningForest, IsForest}
use Rattle.pb_forest.specs.Flows.{AgreeOffForest}
use Rattle.pb_graph.specs.Grouping.{Grouping}
use Rattle.pb_graph.specs.Variance.{group_variance}
use Rattle.pb_dual.specs.Priced.{Priced, price_of}
use Rattle.pb_gap.specs.Gap.{Gap, standard_deviations_of}
use Rattle.pb_gap.specs.GapRange.{IsGapInRange}
use Rattle.pb_gap.specs.Nets.{imbalance_root}
use Rattle.pb_gap.specs.State.{State, IsState, gap_in, nearest_flows}

-- a spanning forest and prices of one graph
pub record AreOfGraph (f : SpanningForest) (d : Priced) : Type 0 where
  pub limits : IsProcessGraph d.graph
  pub groups : AreGroups d.graph d.group
  pub forest : f.graph ≡ d.graph
  pub held : IsForest d.graph.streams f.held
  pub fit : PricesFit d.graph (price_of d)

-- the flows that belong to prices, found by a spanning forest
pub record AreFlowsOf (f : SpanningForest) (d : Priced) (flows : List ℤ) : Type 0 where
  pub balanced : IsBalanced d.graph flows
  pub nearest : AgreeOffForest f.held flows (nearest_flows (price_of d) d.graph.streams)
  pub small : All IsFlow flows

-- the standard deviation of an imbalance is within 2^63
pub record IsSmallRoot (root : ℤ) : Type 0 where
  pub from : pos 0 ≤ℤ root
  pub to : root ≤ℤ pos (2 ^ 63)

-- a number for each group: the standard deviation of its imbalance
pub record AreImbalanceRoots (grouping : Grouping) (roots : List ℤ) : Type 0 where
  pub each : length roots ≡ group_count grouping.group
  pub are : (k : ℕ) → k < group_count grouping.group → item roots k ≡ imbalance_root (get_or grouping.variance k (pos 0))
  pub small : (k : ℕ) → k < group_count grouping.group → IsSmallRoot (item roots k)

pub record HaveRoots (d : Priced) (roots : List ℤ) : Type 0 where
  pub each : length roots ≡ group_count d.group
  pub are : (k : ℕ) → k < group_count d.group → item roots k ≡ imbalance_root (group_variance d.group k d.graph.streams)
  pub small : (k : ℕ) → k < group_count d.group → IsSmallRoot (item roots k)

-- a standard deviation and a flow for each stream, and room for one number for each stream
pub record HaveRoom (g : ProcessGraph) (standard_deviations nearest flows deviations : List ℤ) : Type 0 where
  pub rooted : standard_deviations ≡ standard_deviations_of g.streams
  pub of_nearest : length nearest ≡ length g.streams
  pub of_flows : length flows ≡ length g.streams
  pub small : All IsFlow flows
  pub of_deviations : length deviations ≡ length g.streams

pub record IsIterate (f : SpanningForest) (d : Priced) (standard_deviations roots nearest flows deviations : List ℤ) : Type 0 where
  pub parts : AreOfGraph f d
  pub nets : HaveRoots d roots
  pub room : HaveRoom d.graph standard_deviations nearest flows deviations

-- a gap is the gap of a state, and is within its range
pub record IsGapOf (state : State) (gap : Gap) : Type 0 where
  pub value : gap ≡ gap_in state
  pub range : IsGapInRange gap

-- the flows of a state belong to its prices, and this is their gap
pub record IsSettled (state : State) (gap : Gap) : Type 0 where
  pub is : IsState state
  pub measure : IsGapOf state gap

-- the squares of the first of these deviations add up to more than the square of a limit
pub record AreFar (limit : ℤ) (deviations : List ℤ) : Type 0 where
  pub count : ℕ
  pub nonneg : (k : ℕ) → k < count → pos 0 ≤ℤ item deviations k
  pub above : (limit *ℤ limit) <ℤ sum_over (λ a. a *ℤ a) (take count deviations)
