use Rattle.pb_stage.proofs.TestLaws.{measure_reject, measure_accept}
use Rattle.pb_stage.proofs.laws.decided_measure_law.Goals as goal

pub returns : goal.returns
returns c = record { reject = measure_reject; accept = measure_accept }
