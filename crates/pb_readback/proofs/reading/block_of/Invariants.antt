use Rattle.std.proofs.Common.{◌≡◌, ◌+◌, length}
use Rattle.pb_readback.specs.Drafts.{draft_of}
use Rattle.pb_readback.specs.Reading.{HaveParts, IsReadTo, IsUnderWay, KeepsResults}
use Rattle.pb_readback.proofs.reading.block_of.Given as goal

abbrev pub invariant-loop-records : goal.invariant-loop-records
invariant-loop-records l = record {
  read : IsReadTo (draft_of l.fn.heading) l.fn.records.left l.draft l.records.left;
  way : IsUnderWay l.draft;
  parts : HaveParts l.draft;
  counted : l.records.taken + length l.records.left ≡ l.fn.records.taken + length l.fn.records.left;
  kept : KeepsResults l.draft l.results;
  same : l.draft.heading ≡ l.fn.heading;
}

abbrev pub decreases-loop-records : goal.decreases-loop-records
decreases-loop-records l = length l.records.left
