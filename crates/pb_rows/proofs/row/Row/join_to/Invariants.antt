use Rattle.std.proofs.Common.{◌≡◌, ◌≤◌, ◌++◌, take}
use Rattle.csv.specs.Writing.{default_writer, row_body}
use Rattle.pb_rows.proofs.row.Row.join_to.Given as goal

abbrev pub invariant-loop-i : goal.invariant-loop-i
invariant-loop-i l = record {
  some : 1 ≤ l.i;
  so_far : l.text.items ≡ l.fn.text.items ++ row_body default_writer (take l.i l.self);
}
