use Rattle.std.proofs.Common.{◌≡◌, ◌+◌, ◌++◌, drop}
use Rattle.pb_rows.specs.Written.{text_of_rows}
use Rattle.pb_make.proofs.Abbreviations.{stream_rows}
use Rattle.pb_make.proofs.sessions.write_streams.Given as goal

-- the rows so far and the remaining ones are all the rows
abbrev pub invariant-loop-k : goal.invariant-loop-k
invariant-loop-k l = l.text.items ++ text_of_rows (stream_rows (l.k + 1) (drop l.k l.plant)) ≡ l.initial.text.items ++ text_of_rows (stream_rows 1 l.plant)
