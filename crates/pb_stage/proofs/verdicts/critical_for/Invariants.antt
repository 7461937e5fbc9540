use Rattle.std.proofs.Common.{◌≡◌, drop}
use Rattle.pb_stage.specs.Verdicts.{critical_for}
use Rattle.pb_stage.proofs.verdicts.critical_for.Given as goal

-- no row so far is for these degrees of freedom
abbrev pub invariant-loop-row : goal.invariant-loop-row
invariant-loop-row l = critical_for l.dof l.rows ≡ critical_for l.dof (drop l.row-index l.rows)
