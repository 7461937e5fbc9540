use Rattle.std.proofs.Common.{◌≡◌, ◌++◌, drop}
use Rattle.std.specs.Prelude.{filter_map}
use Rattle.pb_session.specs.Criticals.{critical_row}
use Rattle.pb_session.proofs.criticals.critical_rows.Given as goal

abbrev pub invariant-loop-row : goal.invariant-loop-row
invariant-loop-row l = l.rows ++ filter_map critical_row (drop l.row-index l.declared) ≡ filter_map critical_row l.declared
