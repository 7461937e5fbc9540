-- Statement. The ranges of the numbers of a state: each number is within the range in which it is printed.
use Rattle.std.specs.Prelude.{ℕ, ℤ, pos, ◌≤ℤ◌, List, All, IfSome}
use Rattle.pb_graph.specs.declared.records.Member.{Member}
use Rattle.pb_graph.specs.ProcessGraph.{ProcessGraph, IsProcessGraph}
use Rattle.pb_graph.specs.Prices.{PricesFit}
use Rattle.pb_study.specs.WellFormed.{AreBoundsWithin, IsWide}
use Rattle.pb_graph.specs.WellFormed.{IsFlow}
use Rattle.pb_gap.specs.Gap.{gap_of}
use Rattle.pb_gap.specs.GapRange.{IsGapInRange}
use Rattle.pb_gap.specs.Bounds.{AreSigned, bounds_of}
use Rattle.pb_gap.specs.Statistic.{low_of, high_of}
use Rattle.pb_gap.specs.State.{AreRoundedFlows}

-- an end of the statistic, which is at least 0
pub record IsEnd (value : ℤ) : Type 0 where
  pub least : pos 0 ≤ℤ value
  pub wide : IsWide value

-- the flows, the gap between them and the prices, the ends of the statistic, and the bounds of each signed sum of measured flows are
-- within their ranges
pub record AreNumbersWithin (graph : ProcessGraph) (price : ℕ → ℤ) (flows : List ℤ) : Type 0 where
  pub each_flow : All IsFlow flows
  pub gap : IsGapInRange (gap_of price graph.streams flows)
  pub low : IsEnd (low_of graph.streams flows (gap_of price graph.streams flows))
  pub high : IfSome (high_of graph.streams flows) IsEnd
  pub bounds :
      (members : List Member) → AreSigned graph members
      → AreBoundsWithin (bounds_of price graph.streams (gap_of price graph.streams flows) members)

-- Prices that fit, and the flows that belong to them, have numbers within their ranges.
abbrev pub RangeLaw : Type 0
RangeLaw = (graph : ProcessGraph) (price : ℕ → ℤ) (flows : List ℤ)
    → IsProcessGraph graph → PricesFit graph price → AreRoundedFlows graph price flows
    → AreNumbersWithin graph price flows
