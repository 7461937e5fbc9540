use Rattle.std.proofs.Common.{◌≡◌, ◌*◌, ◌≤◌, ◌+ℤ◌, unsigned_abs, drop}
use Rattle.pb_limits.specs.Limits.{most_value}
use Rattle.pb_stage.specs.Nodal.{group_net}
use Rattle.pb_stage.proofs.nodals.group_net.Given as goal

-- the total and the net flow of the remaining streams make the net flow of all
abbrev pub invariant-loop-stream : goal.invariant-loop-stream
invariant-loop-stream l = record {
  so_far : l.total +ℤ group_net l.numbers l.group (drop l.stream-index l.streams) ≡ group_net l.numbers l.group l.streams;
  small : unsigned_abs l.total ≤ l.stream-index * most_value;
}
