use Rattle.std.proofs.Common.{◌≡◌, ◌++◌, drop}
use Rattle.cases.proofs.fields.fields_from.Given as goal

-- the fields so far, and then the rest
abbrev pub invariant-loop-i : goal.invariant-loop-i
invariant-loop-i l = l.fields ++ drop l.i l.row ≡ drop l.from l.row
