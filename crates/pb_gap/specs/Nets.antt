-- Statement. What the net dual flow of a group may be if a gap is met.
use Rattle.std.specs.Prelude.{ℕ, ◌*◌, ◌/◌, ◌^◌, ℤ, pos, ◌+ℤ◌, ◌*ℤ◌, ◌≤ℤ◌, unsigned_abs, List}
use Rattle.pb_fixed.specs.Roots.{scaled_root_of}
use Rattle.pb_graph.specs.ProcessGraph.{ProcessGraph, IsProcessGraph}
use Rattle.pb_graph.specs.Balance.{IsBalanced}
use Rattle.pb_graph.specs.Groups.{AreGroups}
use Rattle.pb_graph.specs.Prices.{PricesFit}
use Rattle.pb_graph.specs.Variance.{group_variance}
use Rattle.pb_dual.specs.Moves.{group_flow}
use Rattle.pb_gap.specs.Gap.{MeetsGap, gap_of}

-- the standard deviation of an imbalance of this variance in units of 2^-20 gram, rounded up
abbrev pub imbalance_root : ℤ → ℤ
imbalance_root variance = scaled_root_of variance +ℤ pos 1

-- the greatest deviation if a gap is met at this many thousandths, times the standard deviation of the imbalance, in units of 2^-56
-- gram
abbrev pub most_net : ℕ → ℤ → ℤ
most_net thousandths variance = (pos (thousandths * 2 ^ 20 / 1000) *ℤ imbalance_root variance) *ℤ pos (2 ^ 16)

-- If the gap of balanced whole flows is met at a number of thousandths, the net dual flow of each group, whose net flow is 0, is at
-- most that many thousandths of the standard deviation of the group's imbalance (by Cauchy and Schwarz over the streams at its
-- border).
abbrev pub NetLaw : Type 0
NetLaw = (graph : ProcessGraph) (group : List ℕ) (price : ℕ → ℤ) (flows : List ℤ) (k thousandths : ℕ)
    → IsProcessGraph graph → AreGroups graph group → PricesFit graph price → IsBalanced graph flows
    → MeetsGap thousandths (gap_of price graph.streams flows)
    → pos (unsigned_abs (group_flow group price k graph.streams))
    ≤ℤ most_net thousandths (group_variance group k graph.streams)
