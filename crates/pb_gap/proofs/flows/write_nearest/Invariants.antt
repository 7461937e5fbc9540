use Rattle.std.proofs.Common.{◌≡◌, ℕ, ◌<◌, ◌≤◌, length, unsigned_abs}
use Rattle.pb_forest.specs.Flows.{most_given_flow}
use Rattle.pb_fixed.specs.Sums.{item}
use Rattle.pb_gap.specs.State.{nearest_grams}
use Rattle.pb_gap.proofs.flows.write_nearest.Given as goal

-- the flows so far are written
abbrev pub invariant-loop-j : goal.invariant-loop-j
invariant-loop-j l = record {
  room : length l.out ≡ length l.dual_flows;
  value : (k : ℕ) → k < l.j → item l.out k ≡ item (nearest_grams l.dual_flows) k;
  within : (k : ℕ) → k < l.j → unsigned_abs (item l.out k) ≤ most_given_flow;
}
