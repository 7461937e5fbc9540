use Rattle.std.proofs.Common.{◌≡◌, ◌++◌}
use Rattle.pb_rows.specs.Written.{text_of_rows}
use Rattle.pb_make.proofs.Abbreviations.{unit_rows}
use Rattle.pb_make.proofs.sessions.write_units.Given as goal

-- the rows so far
abbrev pub invariant-loop-k : goal.invariant-loop-k
invariant-loop-k l = l.text.items ≡ l.initial.text.items ++ text_of_rows (unit_rows l.k)
