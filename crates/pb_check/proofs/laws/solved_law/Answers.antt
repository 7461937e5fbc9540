use Rattle.pb_check.proofs.OwnLemmas.{solved_right}
use Rattle.pb_check.proofs.laws.solved_law.Goals as goal

pub returns : goal.returns
returns c = solved_right c.gap_law.ensures.numbers c.one_state_law.ensures
