use Rattle.std.specs.Prelude.{◌++◌, filter_map, map, take}
use Rattle.pb_facts.specs.Facts.{live_fact}
use Rattle.pb_book.specs.Kept.{settled_at}
use Rattle.pb_book.specs.Plain.{booked}
use Rattle.pb_book.specs.Written.{WriteRows}
use Rattle.pb_book.proofs.plain.plain_records.Given as goal

abbrev pub invariant-loop-i : goal.invariant-loop-i
invariant-loop-i l =
    WriteRows l.records (settled_at l.declared l.periods l.assays l.places ++ map booked (filter_map live_fact (take l.i l.facts)))
