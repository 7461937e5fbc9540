use Rattle.std.proofs.Common.{◌-◌, ◌≡◌, ◌≤◌, drop, length}
use Rattle.plantbal_c.specs.Block.{TakesFirst}
use Rattle.plantbal_c.proofs.blocks.take_block.Given as goal

-- the first records are taken, each has its code, and the others are left
abbrev pub invariant-turns : goal.invariant-turns
invariant-turns l = record {
  so_far : TakesFirst l.fn.session l.session l.fn.records.left l.count l.codes;
  left : drop l.count l.fn.records.left ≡ l.records.left;
  room : l.count ≤ length l.codes;
}

abbrev pub decreases-turns : goal.decreases-turns
decreases-turns l = length l.initial.codes - l.count
