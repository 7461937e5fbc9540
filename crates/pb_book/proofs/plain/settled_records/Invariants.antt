use Rattle.std.specs.Prelude.{take}
use Rattle.pb_book.specs.Kept.{settled_at}
use Rattle.pb_book.specs.Written.{WriteRows}
use Rattle.pb_book.proofs.plain.settled_records.Given as goal

abbrev pub invariant-loop-i : goal.invariant-loop-i
invariant-loop-i l = WriteRows l.records (settled_at l.declared l.periods l.assays (take l.i l.places))
