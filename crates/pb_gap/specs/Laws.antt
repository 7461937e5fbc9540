-- Statement. What is proved of the weighted squares, the gap, the bounds and the statistic, for any prices that fit.
use Rattle.std.specs.Prelude.{◌≡◌, ◌^◌, ℕ, ℤ, pos, ◌+ℤ◌, ◌*ℤ◌, ◌≤ℤ◌, List, length, All, IfSome}
use Rattle.std.specs.Int.{int_div_euclid}
use Rattle.pb_fixed.specs.Sums.{item}
use Rattle.pb_graph.specs.declared.records.Member.{Member}
use Rattle.pb_graph.specs.declared.records.Classified.{Classified}
use Rattle.pb_graph.specs.ProcessGraph.{ProcessGraph, IsProcessGraph}
use Rattle.pb_graph.specs.Balance.{IsBalanced}
use Rattle.pb_graph.specs.Squares.{Fractional, IsBalancedFractional, IsNoWorse, AreSquaresAtLeast, AreSquaresAtMost, variance_product, weighted_sum_of_squares, weighted_squares, squares_unit, whole_flows}
use Rattle.pb_graph.specs.Prices.{PricesFit}
use Rattle.pb_graph.specs.Certificates.{IsCertified}
use Rattle.pb_graph.specs.PricedSums.{signed_sum}
use Rattle.pb_dual.specs.DualValue.{scale, dual_value}
use Rattle.pb_gap.specs.Residuals.{residual_squares}
use Rattle.pb_gap.specs.Gap.{Gap, IsGap, gap_from, gap_of, gap_size}
use Rattle.pb_gap.specs.Bounds.{AreSigned, IsWithin, bounds_of, variance_sum}
use Rattle.pb_gap.specs.StreamBounds.{IsStreamWithin, sum_for, stream_bounds}
use Rattle.pb_gap.specs.Statistic.{low_of, high_of}

-- the product of the variances over each of them is a whole number: the weight of a measurement
pub record HasWeights (graph : ProcessGraph) : Type 0 where
  pub positive : pos 1 ≤ℤ variance_product graph.streams
  pub each :
      All (λ s. IfSome s.meas (λ m.
      int_div_euclid (variance_product graph.streams) m.variance *ℤ m.variance ≡ variance_product graph.streams))
      graph.streams

abbrev pub WeightLaw : Type 0
WeightLaw = (graph : ProcessGraph) → IsProcessGraph graph → HasWeights graph

-- The inequality of Cauchy and Schwarz: the square of a signed sum of errors of measured streams, each at most once, over the sum of
-- their variances, is at most the weighted sum of squares of all errors.
abbrev pub SignedSchwarzLaw : Type 0
SignedSchwarzLaw = (graph : ProcessGraph) (errors : List ℤ) (members : List Member)
    → IsProcessGraph graph → length errors ≡ length graph.streams → AreSigned graph members
    → (variance_product graph.streams *ℤ (signed_sum members errors *ℤ signed_sum members errors))
    ≤ℤ (variance_sum graph.streams members
    *ℤ weighted_sum_of_squares (variance_product graph.streams) graph.streams errors)

-- prices of a graph that fit, and balanced fractional flows
pub record IsDualPair (graph : ProcessGraph) (price : ℕ → ℤ) (x : Fractional) : Type 0 where
  pub limits : IsProcessGraph graph
  pub fit : PricesFit graph price
  pub balanced : IsBalancedFractional graph x

-- The weighted squares of balanced flows are the dual value of any prices that fit plus the weighted squares of the residuals
-- (Rockafellar, Network Flows and Monotropic Optimization, on the duality gap).
abbrev pub IdentityLaw : Type 0
IdentityLaw = (graph : ProcessGraph) (price : ℕ → ℤ) (x : Fractional) → IsDualPair graph price x
    → (scale *ℤ scale) *ℤ weighted_squares graph x
    ≡ (squares_unit graph x *ℤ dual_value price graph.streams) +ℤ residual_squares price graph x

-- Weak duality: the dual value of prices that fit is at most the weighted squares of any balanced flows.
abbrev pub DualityLaw : Type 0
DualityLaw = (graph : ProcessGraph) (price : ℕ → ℤ) (x : Fractional) → IsDualPair graph price x
    → (squares_unit graph x *ℤ dual_value price graph.streams)
    ≤ℤ ((scale *ℤ scale) *ℤ weighted_squares graph x)

-- each list of deviations has a gap, and only one
pub record AreGaps : Type 0 where
  pub is : (deviations : List ℤ) → IsGap deviations (gap_from deviations)
  pub only : (deviations : List ℤ) (gap : Gap) → IsGap deviations gap → gap ≡ gap_from deviations

-- the square of a gap, in units of 2^-112, as the dual value
abbrev pub gap_square : Gap → ℤ
gap_square gap = pos (2 ^ 72) *ℤ (pos (gap_size gap) *ℤ pos (gap_size gap))

-- The gap of balanced whole flows bounds how far their weighted squares exceed the dual value of any prices that fit.
abbrev pub GapLaw : Type 0
GapLaw = (graph : ProcessGraph) (price : ℕ → ℤ) (flows : List ℤ)
    → IsDualPair graph price (whole_flows flows)
    → ((scale *ℤ scale) *ℤ weighted_squares graph (whole_flows flows))
    ≤ℤ (squares_unit graph (whole_flows flows)
    *ℤ (dual_value price graph.streams +ℤ gap_square (gap_of price graph.streams flows)))

-- The enclosure: for any prices that fit and any balanced whole flows, and in each balanced fractional vector no worse than the flows,
-- the signed sum of any list of measured streams, each at most once, is within its bounds.
abbrev pub EnclosureLaw : Type 0
EnclosureLaw = (graph : ProcessGraph) (price : ℕ → ℤ) (flows : List ℤ) (x : Fractional)
    (members : List Member)
    → IsDualPair graph price x → IsBalanced graph flows → IsNoWorse graph x (whole_flows flows)
    → AreSigned graph members
    → IsWithin x members (bounds_of price graph.streams (gap_of price graph.streams flows) members)

-- a signed list of measured streams, each at most once, whose signed sum is the flow of stream j in all balanced flows
pub record SumsTo (graph : ProcessGraph) (j : ℕ) (members : List Member) : Type 0 where
  pub signed : AreSigned graph members
  pub sum : (flows : List ℤ) → IsBalanced graph flows → signed_sum members flows ≡ item flows j

abbrev pub StreamSumLaw : Type 0
StreamSumLaw = (graph : ProcessGraph) (j : ℕ) (c : Classified)
    → IsProcessGraph graph → IsCertified graph j c
    → IfSome (sum_for j c.class c.witness) (SumsTo graph j)

-- The enclosure of each stream that has bounds: for any prices that fit, any balanced whole flows and any class with its certificate.
abbrev pub StreamLaw : Type 0
StreamLaw = (graph : ProcessGraph) (price : ℕ → ℤ) (flows : List ℤ) (x : Fractional) (j : ℕ)
    (c : Classified)
    → IsDualPair graph price x → IsBalanced graph flows → IsNoWorse graph x (whole_flows flows)
    → IsCertified graph j c
    → IfSome (stream_bounds price graph.streams (gap_of price graph.streams flows) j c)
    (IsStreamWithin x j)

-- the weighted squares of each balanced vector are at least the low end of the statistic of any balanced whole flows
abbrev pub LowLaw : Type 0
LowLaw = (graph : ProcessGraph) (price : ℕ → ℤ) (flows : List ℤ) (x : Fractional)
    → IsDualPair graph price x → IsBalanced graph flows
    → AreSquaresAtLeast graph x (low_of graph.streams flows (gap_of price graph.streams flows))

-- the weighted squares of the flows themselves are at most the high end, if there is one
abbrev pub HighLaw : Type 0
HighLaw = (graph : ProcessGraph) (flows : List ℤ) → IsProcessGraph graph
    → IfSome (high_of graph.streams flows) (AreSquaresAtMost graph (whole_flows flows))
