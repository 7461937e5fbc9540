use Rattle.pb_gap.proofs.States.{some_state}
use Rattle.pb_gap.proofs.laws.some_state_law.Goals as goal

pub returns : goal.returns
returns c = some_state
