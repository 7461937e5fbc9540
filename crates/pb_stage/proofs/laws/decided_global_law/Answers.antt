use Rattle.pb_stage.proofs.TestLaws.{global_reject, global_accept}
use Rattle.pb_stage.proofs.laws.decided_global_law.Goals as goal

pub returns : goal.returns
returns c = record { reject = global_reject; accept = global_accept }
