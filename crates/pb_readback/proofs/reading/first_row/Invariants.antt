use Rattle.std.proofs.Common.{◌≡◌, ◌+◌, ◌++◌, ℕ, List, length}
use Rattle.pb_readback.specs.Next.{ArePassedOver}
use Rattle.pb_readback.proofs.reading.first_row.Given as goal

abbrev pub invariant-loop-row : goal.invariant-loop-row
invariant-loop-row l = record {
  over : (passed : List (List (List ℕ))) × (l.fn.records.left ≡ passed ++ l.records.left) × ArePassedOver passed;
  counted : l.records.taken + length l.records.left ≡ l.fn.records.taken + length l.fn.records.left;
}

abbrev pub decreases-loop-row : goal.decreases-loop-row
decreases-loop-row l = length l.records.left
