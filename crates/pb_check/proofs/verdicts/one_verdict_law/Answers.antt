use Rattle.pb_check.proofs.CheckLaws.{not_both, one_fault}
use Rattle.pb_check.proofs.verdicts.one_verdict_law.Goals as goal

pub returns-clause-not_both : goal.returns-clause-not_both
returns-clause-not_both c = not_both

pub returns-clause-one : goal.returns-clause-one
returns-clause-one c = one_fault
