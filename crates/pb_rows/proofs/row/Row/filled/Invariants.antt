use Rattle.std.proofs.Common.{◌≡◌, ◌≤◌, length, take}
use Rattle.pb_rows.specs.Records.{without_trailing_empty}
use Rattle.pb_rows.proofs.row.Row.filled.Given as goal

abbrev pub invariant-loop-filled : goal.invariant-loop-filled
invariant-loop-filled l = record {
  within : l.filled ≤ length l.self;
  same : without_trailing_empty (take l.filled l.self) ≡ without_trailing_empty l.self;
}

abbrev pub decreases-loop-filled : goal.decreases-loop-filled
decreases-loop-filled l = l.filled
