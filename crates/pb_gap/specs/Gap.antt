-- Statement. The gap of prices and whole flows: how far the flows are from the dual flows, in standard deviations.
use Rattle.std.specs.Prelude.{ℕ, ◌*◌, ◌^◌, ◌≤◌, ℤ, pos, ◌-ℤ◌, ◌*ℤ◌, ◌≤ℤ◌, unsigned_abs, List, map, Option, Some, None}
use Rattle.std.specs.Option.{option_map_or}
use Rattle.pb_fixed.specs.Quotients.{ceil_div}
use Rattle.pb_fixed.specs.Roots.{root_ceil_of, scaled_root_of}
use Rattle.pb_fixed.specs.Blocks.{IsBlockExponent, block_exponent_of, block_squares_of}
use Rattle.pb_graph.specs.declared.records.Meas.{Meas}
use Rattle.pb_graph.specs.declared.records.Stream.{Stream}
use Rattle.pb_graph.specs.Prices.{rise_of}
use Rattle.pb_graph.specs.Squares.{by_stream}
use Rattle.pb_dual.specs.DualValue.{scale, flow_at}
pub use Rattle.pb_gap.specs.declared.gap.Gap.{Gap}

-- the standard deviation of a measurement in units of 2^-20 gram, rounded down; 0 if there is no measurement
abbrev pub standard_deviation_of : Option Meas → ℤ
standard_deviation_of meas = option_map_or (λ (m : Meas). scaled_root_of m.variance) meas (pos 0)

abbrev pub standard_deviations_of : List Stream → List ℤ
standard_deviations_of streams = map (λ s. standard_deviation_of s.meas) streams

-- how far the flow p of a measurement along which the price rises by d is from its dual flow, in standard deviations, in units of
-- 2^-20, rounded up; 0 if there is no measurement. A flow has 2^56 units a gram and a root 2^20, so 2^16 more makes 2^-20 of it.
abbrev pub deviation_at : Option Meas → ℤ → ℤ → ℤ
deviation_at None d p = pos 0
deviation_at (Some m) d p = ceil_div (pos (unsigned_abs ((p *ℤ scale) -ℤ flow_at (Some m) d))) (scaled_root_of m.variance *ℤ pos (2 ^ 16))

-- the deviation of each stream's flow
abbrev pub deviations_of : (ℕ → ℤ) → List Stream → List ℤ → List ℤ
deviations_of price ss ps = by_stream (λ s p. deviation_at s.meas (rise_of price s) p) ss ps

-- the size of a gap, in units of 2^-20 standard deviation
abbrev pub gap_size : Gap → ℕ
gap_size gap = gap.g * 2 ^ gap.h

-- h is the least number with every deviation at most 2^(57 + h), and g is the least number whose square is at least the sum of the
-- squares of the deviations in blocks of 2^h
pub record IsGap (deviations : List ℤ) (gap : Gap) : Type 0 where
  pub exponent : IsBlockExponent deviations gap.h
  pub above : block_squares_of deviations gap.h ≤ℤ pos (gap.g * gap.g)
  pub least : (k : ℕ) → block_squares_of deviations gap.h ≤ℤ pos (k * k) → gap.g ≤ k

-- the gap of a list of deviations
abbrev pub gap_from : List ℤ → Gap
gap_from deviations =
    record { g = root_ceil_of (unsigned_abs (block_squares_of deviations (block_exponent_of deviations))); h = block_exponent_of deviations }

-- Statement. The gap of prices and flows: the root of the sum of the squares of the deviations, rounded up. It bounds how far the
-- weighted squares of the flows are above the dual value (the duality gap: Rockafellar, Network Flows and Monotropic Optimization).
abbrev pub gap_of : (ℕ → ℤ) → List Stream → List ℤ → Gap
gap_of price ss ps = gap_from (deviations_of price ss ps)

-- the gap is met at this many thousandths of a standard deviation
abbrev pub MeetsGap : ℕ → Gap → Type 0
MeetsGap thousandths gap = gap_size gap * 1000 ≤ thousandths * 2 ^ 20
