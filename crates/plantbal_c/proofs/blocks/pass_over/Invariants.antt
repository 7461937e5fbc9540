use Rattle.std.proofs.Common.{◌-◌, ◌≡◌, ◌≤◌, drop}
use Rattle.plantbal_c.proofs.blocks.pass_over.Given as goal

-- the first records are passed over
abbrev pub invariant-turns : goal.invariant-turns
invariant-turns l = record {
  left : drop l.passed l.fn.records.left ≡ l.records.left;
  within : l.passed ≤ l.fn.count;
}

abbrev pub decreases-turns : goal.decreases-turns
decreases-turns l = l.count - l.passed
