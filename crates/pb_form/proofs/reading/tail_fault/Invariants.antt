use Rattle.std.proofs.Common.{◌≡◌, ◌<◌, ◌-◌, [], length, map, drop}
use Rattle.pb_form.specs.Reading.{fields_read, repeated}
use Rattle.pb_form.specs.Seen.{column_seen}
use Rattle.pb_form.specs.Told.{fault_in, joined, so_far}
use Rattle.pb_form.proofs.reading.tail_fault.Given as goal

-- the place lies in the tail, and the first fault so far and what the fields that are left say give the fault of all of them
abbrev pub invariant-loop-i : goal.invariant-loop-i
invariant-loop-i l = record {
  place : l.place < length l.tail;
  rest : fault_in (joined (so_far l.first []) (fields_read (repeated (map column_seen l.tail) (map column_seen (drop l.place l.tail)) (length l.fields - l.i)) (drop l.i l.fields)))
      ≡ fault_in (fields_read (repeated (map column_seen l.tail) [] (length l.fields - l.start)) (drop l.start l.fields));
}
