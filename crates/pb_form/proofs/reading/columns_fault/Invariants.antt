use Rattle.std.proofs.Common.{◌≡◌, [], map, drop}
use Rattle.pb_form.specs.Reading.{fields_read}
use Rattle.pb_form.specs.Seen.{column_seen}
use Rattle.pb_form.specs.Told.{fault_in, joined, so_far}
use Rattle.pb_form.proofs.reading.columns_fault.Given as goal

-- the first fault so far and what the fields that are left say give the fault of all of them
abbrev pub invariant-loop-i : goal.invariant-loop-i
invariant-loop-i l =
    fault_in (joined (so_far l.first []) (fields_read (map column_seen (drop l.i l.columns)) (drop l.i l.fields))) ≡ fault_in (fields_read (map column_seen l.columns) l.fields)
