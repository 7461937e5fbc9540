-- Statement. Residuals: how far fractional flows are from the dual flows of prices.
use Rattle.std.specs.Prelude.{ℕ, ℤ, ◌-ℤ◌, ◌*ℤ◌, List}
use Rattle.pb_graph.specs.declared.records.Stream.{Stream}
use Rattle.pb_graph.specs.ProcessGraph.{ProcessGraph}
use Rattle.pb_graph.specs.Squares.{Fractional, variance_product, weighted_sum_of_squares, by_stream}
use Rattle.pb_dual.specs.DualValue.{scale, dual_flow}

-- the residual of a stream's flow y/q: y/q less the dual flow, in units of 2^-56/q gram
abbrev pub residual_of : ℤ → (ℕ → ℤ) → Stream → ℤ → ℤ
residual_of q price s y = (y *ℤ scale) -ℤ (q *ℤ dual_flow price s)

-- the residuals of a flow vector
abbrev pub residuals_of : (ℕ → ℤ) → List Stream → Fractional → List ℤ
residuals_of price streams x = by_stream (residual_of x.denominator price) streams x.numerators

-- The weighted squares of the residuals of flows, the sum over measured streams of (flow - dual flow)² / variance, in units of
-- 2^-112 over the unit of the weighted squares.
abbrev pub residual_squares : (ℕ → ℤ) → ProcessGraph → Fractional → ℤ
residual_squares price graph x =
    weighted_sum_of_squares (variance_product graph.streams) graph.streams
    (residuals_of price graph.streams x)
