-- The dual flow and the variance of the stream that was found at a place, or 0 if there is none.
use Rattle.std.specs.Prelude.{ℕ, ℤ, pos, Option}
use Rattle.std.specs.Option.{option_map_or}
use Rattle.pb_graph.specs.declared.records.Stream.{Stream}
use Rattle.pb_graph.specs.Variance.{variance_of}
use Rattle.pb_dual.specs.DualValue.{dual_flow}

abbrev pub dual_flow_in : (ℕ → ℤ) → Option Stream → ℤ
dual_flow_in price found = option_map_or (dual_flow price) found (pos 0)

abbrev pub variance_in : Option Stream → ℤ
variance_in found = option_map_or (λ (s : Stream). variance_of s.meas) found (pos 0)
