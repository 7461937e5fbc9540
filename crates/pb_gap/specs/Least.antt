-- Statement. Least vectors, and how far flows are from them.
use Rattle.std.specs.Prelude.{◌≡◌, ◌^◌, ℕ, ℤ, pos, neg_ℤ, ◌+ℤ◌, ◌*ℤ◌, ◌≤ℤ◌, List, [], ◌∷◌}
use Rattle.pb_graph.specs.ProcessGraph.{ProcessGraph, IsProcessGraph}
use Rattle.pb_graph.specs.Squares.{Fractional, IsBalancedFractional, IsLeast, variance_product, inner_product, weighted_sum_of_squares, errors_of, weighted_squares, squares_unit, whole_flows}
use Rattle.pb_gap.specs.Gap.{Gap, gap_of, gap_size}
use Rattle.pb_gap.specs.Laws.{IsDualPair}

-- a·x + b·y, stream by stream
abbrev pub combination : ℤ → ℤ → List ℤ → List ℤ → List ℤ
combination a b [] ys = []
combination a b (x ∷ xs) [] = []
combination a b (x ∷ xs) (y ∷ ys) = ((a *ℤ x) +ℤ (b *ℤ y)) ∷ combination a b xs ys

-- the difference p - x of two flow vectors
abbrev pub difference_of : Fractional → Fractional → Fractional
difference_of p x = record {
  numerators = combination x.denominator (neg_ℤ p.denominator) p.numerators x.numerators;
  denominator = p.denominator *ℤ x.denominator;
}

-- the square of the distance of two flow vectors: the sum over measured streams of (p - x)² / variance, in units of 1 / squares_unit
-- of the difference
abbrev pub squared_distance : ProcessGraph → Fractional → Fractional → ℤ
squared_distance graph p x =
    weighted_sum_of_squares (variance_product graph.streams) graph.streams
    (difference_of p x).numerators

-- Orthogonality: at a least vector the errors have inner product 0 with each balanced vector (the normal equations of least squares
-- under the balances).
abbrev pub OrthogonalityLaw : Type 0
OrthogonalityLaw = (graph : ProcessGraph) (x y : Fractional)
    → IsProcessGraph graph → IsLeast graph x → IsBalancedFractional graph y
    → inner_product (variance_product graph.streams) graph.streams (errors_of graph.streams x)
    y.numerators ≡ pos 0

-- The weighted squares of a balanced vector p less those of a least vector x are the square of their distance (Pythagoras), by cross
-- products.
abbrev pub ExcessLaw : Type 0
ExcessLaw = (graph : ProcessGraph) (p x : Fractional)
    → IsProcessGraph graph → IsBalancedFractional graph p → IsLeast graph x
    → (x.denominator *ℤ x.denominator) *ℤ weighted_squares graph p
    ≡ ((p.denominator *ℤ p.denominator) *ℤ weighted_squares graph x) +ℤ squared_distance graph p x

-- two flow vectors are at most a gap apart, in standard deviations, over all streams together
abbrev pub AreWithinGap : ProcessGraph → Gap → Fractional → Fractional → Type 0
AreWithinGap graph gap p x =
    (squared_distance graph p x *ℤ pos (2 ^ 40))
    ≤ℤ ((pos (gap_size gap) *ℤ pos (gap_size gap)) *ℤ squares_unit graph (difference_of p x))

-- For any prices that fit, balanced whole flows are at most their gap away from a least vector.
abbrev pub DistanceLaw : Type 0
DistanceLaw = (graph : ProcessGraph) (price : ℕ → ℤ) (flows : List ℤ) (x : Fractional)
    → IsDualPair graph price (whole_flows flows) → IsLeast graph x
    → AreWithinGap graph (gap_of price graph.streams flows) (whole_flows flows) x
