use Rattle.pb_gap.proofs.States.{one_state}
use Rattle.pb_gap.proofs.laws.one_state_law.Goals as goal

pub returns : goal.returns
returns c = one_state
