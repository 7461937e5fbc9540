use Rattle.std.proofs.Common.{◌≡◌, ◌≤◌, ◌+◌, ◌++◌, length}
use Rattle.pb_rows.specs.Records.{records_of}
use Rattle.pb_rows.proofs.records.Rows.of.Given as goal

abbrev pub invariant-loop-rows : goal.invariant-loop-rows
invariant-loop-rows l = record {
  all : l.rows ++ l.records.left ≡ records_of l.fn.bytes;
  few : length l.rows + length l.records.left ≤ length l.fn.bytes;
}

abbrev pub decreases-loop-rows : goal.decreases-loop-rows
decreases-loop-rows l = length l.records.left
