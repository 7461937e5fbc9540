use Rattle.std.proofs.Common.{◌≡◌, ℕ, ◌<◌, ◌≤◌, length, unsigned_abs}
use Rattle.pb_fixed.specs.Sums.{item}
use Rattle.pb_dual.specs.DualValue.{dual_flows_of, most_dual_flow}
use Rattle.pb_gap.proofs.dual_flows.write_dual_flows.Given as goal

-- the dual flows so far are written
abbrev pub invariant-loop-j : goal.invariant-loop-j
invariant-loop-j l = record {
  room : length l.out ≡ length l.graph.streams;
  value : (k : ℕ) → k < l.j → item l.out k ≡ item (dual_flows_of (item l.prices) l.graph.streams) k;
  within : (k : ℕ) → k < l.j → unsigned_abs (item l.out k) ≤ most_dual_flow;
}
