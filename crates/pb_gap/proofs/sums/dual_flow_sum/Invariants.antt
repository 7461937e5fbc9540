use Rattle.std.proofs.Common.{◌≡◌, ℕ, ℤ, ◌*◌, ◌≤◌, unsigned_abs, take}
use Rattle.pb_dual.specs.DualValue.{dual_flows_of, most_dual_flow}
use Rattle.pb_gap.specs.Bounds.{dual_flow_sum}
use Rattle.pb_gap.proofs.sums.dual_flow_sum.Given as goal

abbrev pub invariant-loop-member : goal.invariant-loop-member
invariant-loop-member l = record {
  so_far : (price : ℕ → ℤ) → l.dual_flows ≡ dual_flows_of price l.streams → l.total ≡ dual_flow_sum price l.streams (take l.member-index l.members);
  small : unsigned_abs l.total ≤ l.member-index * most_dual_flow;
}
