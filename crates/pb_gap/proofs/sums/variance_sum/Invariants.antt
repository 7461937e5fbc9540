use Rattle.std.proofs.Common.{◌≡◌, pos, ◌*◌, ◌≤ℤ◌, take}
use Rattle.pb_limits.specs.Limits.{most_variance}
use Rattle.pb_gap.specs.Bounds.{variance_sum}
use Rattle.pb_gap.proofs.sums.variance_sum.Given as goal

abbrev pub invariant-loop-member : goal.invariant-loop-member
invariant-loop-member l = record {
  so_far : l.total ≡ variance_sum l.streams (take l.member-index l.members);
  nonneg : pos 0 ≤ℤ l.total;
  small : l.total ≤ℤ pos (l.member-index * most_variance);
}
