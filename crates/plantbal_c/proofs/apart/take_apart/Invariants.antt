use Rattle.std.proofs.Common.{◌-◌, ◌≤◌}
use Rattle.plantbal_c.specs.Block.{TakesFirst}
use Rattle.plantbal_c.specs.Fields.{records_between}
use Rattle.plantbal_c.proofs.RecordLemmas.{AreLeft}
use Rattle.plantbal_c.proofs.apart.take_apart.Given as goal

-- the first records are taken, each has its code, and the others are left
abbrev pub invariant-turns : goal.invariant-turns
invariant-turns l = record {
  so_far : TakesFirst l.fn.session l.session (records_between l.fn.text l.fn.ends 0 0 l.fn.counts) l.count l.codes;
  left : AreLeft l.fn.text l.fn.ends l.fn.counts l.count l.from l.first;
  within : l.count ≤ l.room;
}

abbrev pub decreases-turns : goal.decreases-turns
decreases-turns l = l.room - l.count
