use Rattle.std.proofs.Common.{◌≡◌, ◌*◌, ◌≤◌, unsigned_abs, take}
use Rattle.pb_limits.specs.Limits.{most_variance}
use Rattle.pb_dual.specs.Border.{border_variance}
use Rattle.pb_dual.proofs.border.variance.Given as goal

abbrev pub invariant-loop-stream : goal.invariant-loop-stream
invariant-loop-stream l = record {
  so_far : l.total ≡ border_variance (take l.stream-index l.border);
  small : unsigned_abs l.total ≤ l.stream-index * most_variance;
}
