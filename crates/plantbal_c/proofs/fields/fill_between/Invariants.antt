use Rattle.plantbal_c.proofs.FieldLemmas.{IsSoFar}
use Rattle.plantbal_c.proofs.fields.fill_between.Given as goal

-- the first fields are in the row
abbrev pub invariant-loop-i : goal.invariant-loop-i
invariant-loop-i l = record {
  so_far : IsSoFar l.fn.text l.fn.ends l.fn.from l.i l.begin l.row;
}
