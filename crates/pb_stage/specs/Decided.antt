-- Statement. What a decided test says of the weighted squares themselves.
use Rattle.std.specs.Prelude.{ℤ, pos, ◌+ℤ◌, ◌*ℤ◌, ◌≤ℤ◌, ◌<ℤ◌, List, Option, IfSome}
use Rattle.pb_graph.specs.ProcessGraph.{ProcessGraph}
use Rattle.pb_graph.specs.Squares.{Fractional, IsBalancedFractional, AreSquaresAtLeast, AreSquaresAtMost, weighted_squares, squares_unit, whole_flows}

-- this many thousandths plus the weighted squares of y in another graph, as a numerator over a thousand units of y
abbrev pub squares_and : ProcessGraph → Fractional → ℤ → ℤ
squares_and other y critical = (critical *ℤ squares_unit other y) +ℤ (pos 1000 *ℤ weighted_squares other y)

-- the weighted squares of x in a graph are above those of y in another by more than this many thousandths, by cross products
abbrev pub AreSquaresAboveBy : ProcessGraph → Fractional → ProcessGraph → Fractional → ℤ → Type 0
AreSquaresAboveBy graph x other y critical =
    (squares_and other y critical *ℤ squares_unit graph x) <ℤ ((pos 1000 *ℤ weighted_squares graph x) *ℤ squares_unit other y)

-- they are above those of y by at most this many thousandths
abbrev pub AreSquaresWithinBy : ProcessGraph → Fractional → ProcessGraph → Fractional → ℤ → Type 0
AreSquaresWithinBy graph x other y critical =
    ((pos 1000 *ℤ weighted_squares graph x) *ℤ squares_unit other y) ≤ℤ (squares_and other y critical *ℤ squares_unit graph x)

-- The ends of the statistic of a graph by its flows: no balanced flows have weighted squares below the low end, and those of these flows
-- aren't above the high end, if there is one.
pub record AreEnds (graph : ProcessGraph) (flows : List ℤ) (low : ℤ) (high : Option ℤ) : Type 0 where
  pub least : (x : Fractional) → IsBalancedFractional graph x → AreSquaresAtLeast graph x low
  pub most : IfSome high (AreSquaresAtMost graph (whole_flows flows))
