use Rattle.pb_check.proofs.CheckLaws.{some_verdict}
use Rattle.pb_check.proofs.verdicts.some_verdict_law.Goals as goal

pub returns : goal.returns
returns c = some_verdict
