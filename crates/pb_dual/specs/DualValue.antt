-- Statement. The dual of weighted least squares under the balances, which has a price for each node, half the multiplier of its balance
-- (Rockafellar, Network Flows and Monotropic Optimization).
use Rattle.std.specs.Prelude.{◌+◌, ◌*◌, ◌^◌, ℕ, ℤ, pos, neg_ℤ, ◌+ℤ◌, ◌*ℤ◌, List, map, Option, Some, None}
use Rattle.pb_limits.specs.Limits.{most_value}
use Rattle.pb_fixed.specs.Sums.{sum_over}
use Rattle.pb_graph.specs.declared.records.Meas.{Meas}
use Rattle.pb_graph.specs.declared.records.Stream.{Stream}
use Rattle.pb_graph.specs.Prices.{most_adjustment, rise_of}

-- a gram has 2^56 units of dual flow
abbrev pub scale : ℤ
scale = pos (2 ^ 56)

-- the dual flow of a measurement along which the price rises by d: its value plus its variance times the rise;
-- 0 if there is no measurement
abbrev pub flow_at : Option Meas → ℤ → ℤ
flow_at None d = pos 0
flow_at (Some m) d = (scale *ℤ m.value) +ℤ (m.variance *ℤ d)

-- the dual flow of a stream, in units of 2^-56 gram
abbrev pub dual_flow : (ℕ → ℤ) → Stream → ℤ
dual_flow price s = flow_at s.meas (rise_of price s)

-- the dual flow of each stream
abbrev pub dual_flows_of : (ℕ → ℤ) → List Stream → List ℤ
dual_flows_of price streams = map (dual_flow price) streams

-- the greatest dual flow of prices that fit, either way: that of the greatest value, plus the limit of the box
abbrev pub most_dual_flow : ℕ
most_dual_flow = most_value * 2 ^ 56 + most_adjustment

-- what a measurement along which the price rises by d takes from the dual value
abbrev pub cost_at : Option Meas → ℤ → ℤ
cost_at None d = pos 0
cost_at (Some m) d = ((pos 2 *ℤ scale) *ℤ (d *ℤ m.value)) +ℤ (m.variance *ℤ (d *ℤ d))

-- The dual value of prices, in units of 2^-112. The sum of weighted squares of a balanced vector is never below the dual value of
-- prices that fit.
abbrev pub dual_value : (ℕ → ℤ) → List Stream → ℤ
dual_value price ss = neg_ℤ (sum_over (λ s. cost_at s.meas (rise_of price s)) ss)
