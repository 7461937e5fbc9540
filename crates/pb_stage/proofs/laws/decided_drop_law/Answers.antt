use Rattle.pb_stage.proofs.TestLaws.{drop_reject, drop_accept}
use Rattle.pb_stage.proofs.laws.decided_drop_law.Goals as goal

pub returns : goal.returns
returns c = record { reject = drop_reject; accept = drop_accept }
