use Rattle.std.proofs.Common.{◌≡◌, map, drop}
use Rattle.pb_form.specs.Seen.{column_seen}
use Rattle.pb_form.specs.Telling.{agrees}
use Rattle.pb_form.proofs.telling.agrees.Given as goal

-- the columns that are left decide
abbrev pub invariant-loop-i : goal.invariant-loop-i
invariant-loop-i l = agrees (map column_seen (drop l.i l.columns)) (drop l.i l.fields) ≡ agrees (map column_seen l.columns) l.fields
