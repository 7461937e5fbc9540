-- Statement. What is proved of least bounds, for any prices that fit and any balanced whole flows.
use Rattle.std.specs.Prelude.{◌≡◌, ◌^◌, ℕ, ℤ, pos, ◌+ℤ◌, ◌*ℤ◌, List, ◌∷◌, IfSome}
use Rattle.pb_fixed.specs.Quotients.{ceil_div}
use Rattle.pb_fixed.specs.Roots.{scaled_root_of}
use Rattle.pb_graph.specs.declared.records.Stream.{Stream}
use Rattle.pb_graph.specs.declared.records.Member.{Member}
use Rattle.pb_graph.specs.declared.records.Classified.{Classified}
use Rattle.pb_graph.specs.ProcessGraph.{ProcessGraph, IsProcessGraph}
use Rattle.pb_graph.specs.Squares.{Fractional, IsLeast, whole_flows}
use Rattle.pb_graph.specs.Prices.{PricesFit}
use Rattle.pb_graph.specs.Certificates.{IsCertified}
use Rattle.pb_study.specs.WellFormed.{AreBoundsWithin}
use Rattle.pb_gap.specs.Residuals.{residual_squares}
use Rattle.pb_gap.specs.Gap.{Gap, gap_of, gap_size}
use Rattle.pb_gap.specs.Bounds.{AreSigned, IsWithin, half_width_in, variance_sum}
use Rattle.pb_gap.specs.StreamBounds.{IsStreamWithin}
use Rattle.pb_gap.specs.State.{AreRoundedFlows}
use Rattle.pb_gap.specs.Laws.{IsDualPair}
use Rattle.pb_gap.specs.Least.{squared_distance}
use Rattle.pb_gap.specs.LeastBounds.{middle_of, least_bounds_of, stream_least_bounds}

-- The hypercircle: a least vector is half as far from the middle of balanced flows and the dual flows of prices that fit as the two
-- are from each other, by cross products (the denominator of the middle is twice that of the dual flows).
abbrev pub HypercircleLaw : Type 0
HypercircleLaw = (graph : ProcessGraph) (price : ℕ → ℤ) (flows : List ℤ) (x : Fractional)
    → IsDualPair graph price (whole_flows flows) → IsLeast graph x
    → squared_distance graph x (middle_of price graph.streams flows)
    ≡ (x.denominator *ℤ x.denominator) *ℤ residual_squares price graph (whole_flows flows)

-- Half the half width is half the gap times the standard deviation of the sum, rounded up once.
abbrev pub LeastWidthLaw : Type 0
LeastWidthLaw = (streams : List Stream) (gap : Gap) (m : Member) (ms : List Member)
    → ceil_div (half_width_in streams gap (m ∷ ms)) (pos 2)
    ≡ ceil_div ((scaled_root_of (variance_sum streams (m ∷ ms)) +ℤ pos 1) *ℤ pos (gap_size gap)) (pos (2 ^ 41))

-- In each least vector, the signed sum of any list of measured streams, each at most once, is within its least bounds.
abbrev pub LeastBoundsLaw : Type 0
LeastBoundsLaw = (graph : ProcessGraph) (price : ℕ → ℤ) (flows : List ℤ) (x : Fractional) (members : List Member)
    → IsDualPair graph price (whole_flows flows) → IsLeast graph x → AreSigned graph members
    → IsWithin x members (least_bounds_of price graph.streams flows (gap_of price graph.streams flows) members)

-- In each least vector, each stream that has least bounds is within them, for any class with its certificate.
abbrev pub LeastStreamLaw : Type 0
LeastStreamLaw = (graph : ProcessGraph) (price : ℕ → ℤ) (flows : List ℤ) (x : Fractional) (j : ℕ) (c : Classified)
    → IsDualPair graph price (whole_flows flows) → IsLeast graph x → IsCertified graph j c
    → IfSome (stream_least_bounds price graph.streams flows (gap_of price graph.streams flows) j c) (IsStreamWithin x j)

-- The least bounds of prices that fit, and of the flows that belong to them, are within the range of bounds.
abbrev pub LeastRangeLaw : Type 0
LeastRangeLaw = (graph : ProcessGraph) (price : ℕ → ℤ) (flows : List ℤ) (members : List Member)
    → IsProcessGraph graph → PricesFit graph price → AreRoundedFlows graph price flows → AreSigned graph members
    → AreBoundsWithin (least_bounds_of price graph.streams flows (gap_of price graph.streams flows) members)
