use Rattle.std.proofs.Common.{◌≡◌, ◌++◌, drop}
use Rattle.pb_arrays.specs.GivenCritical.{given_rows}
use Rattle.pb_arrays.proofs.criticals.rows_of.Given as goal

-- those that are done, and those that are left
abbrev pub invariant-loop-row : goal.invariant-loop-row
invariant-loop-row l = l.list ++ given_rows (drop l.row-index l.rows) ≡ given_rows l.rows
