-- Statement. Least bounds: bounds of a signed sum of measured flows that hold for least vectors. Balanced flows and the dual flows of
-- prices that fit are two opposite points of a sphere, whose centre is their middle and whose radius is half their distance. Each
-- least vector lies on this sphere (the hypercircle: Prager and Synge, Approximations in Elasticity Based on the Concept of Function
-- Space; Synge, The Hypercircle in Mathematical Physics).
use Rattle.std.specs.Prelude.{ℕ, ℤ, pos, ◌+ℤ◌, ◌-ℤ◌, ◌*ℤ◌, List, Option, option_map}
use Rattle.pb_fixed.specs.Quotients.{floor_div, ceil_div}
use Rattle.pb_graph.specs.declared.records.Stream.{Stream}
use Rattle.pb_graph.specs.declared.records.Member.{Member}
use Rattle.pb_graph.specs.declared.records.Classified.{Classified}
use Rattle.pb_study.specs.declared.results.Bounds.{Bounds}
use Rattle.pb_graph.specs.Squares.{Fractional, by_stream}
use Rattle.pb_graph.specs.PricedSums.{signed_sum}
use Rattle.pb_dual.specs.DualValue.{scale, dual_flow}
use Rattle.pb_gap.specs.Gap.{Gap}
use Rattle.pb_gap.specs.Bounds.{dual_flow_sum, half_width_in}
use Rattle.pb_gap.specs.StreamBounds.{sum_for}

-- a stream's flow plus its dual flow, in units of 2^-56 gram: twice their middle
abbrev pub twice_middle : (ℕ → ℤ) → Stream → ℤ → ℤ
twice_middle price stream flow = (flow *ℤ scale) +ℤ dual_flow price stream

-- the middle of the flows and the dual flows of prices
abbrev pub middle_of : (ℕ → ℤ) → List Stream → List ℤ → Fractional
middle_of price streams flows = record { numerators = by_stream (twice_middle price) streams flows; denominator = pos 2 *ℤ scale }

-- The least bounds of a signed sum of flows, in grams: the middle of its flows and its dual flows, rounded outward, less and plus half
-- the half width, rounded up.
abbrev pub least_bounds_of : (ℕ → ℤ) → List Stream → List ℤ → Gap → List Member → Bounds
least_bounds_of price streams flows gap members = record {
  lo =
      floor_div (signed_sum members flows +ℤ floor_div (dual_flow_sum price streams members) scale) (pos 2)
      -ℤ ceil_div (half_width_in streams gap members) (pos 2);
  hi =
      ceil_div (signed_sum members flows +ℤ ceil_div (dual_flow_sum price streams members) scale) (pos 2)
      +ℤ ceil_div (half_width_in streams gap members) (pos 2);
}

-- the least bounds of the flow of stream j, or none if it is unobservable
abbrev pub stream_least_bounds : (ℕ → ℤ) → List Stream → List ℤ → Gap → ℕ → Classified → Option Bounds
stream_least_bounds price streams flows gap j c =
    option_map (least_bounds_of price streams flows gap) (sum_for j c.class c.witness)
