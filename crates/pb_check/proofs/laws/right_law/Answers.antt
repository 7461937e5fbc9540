use Rattle.pb_check.proofs.OwnLemmas.{right_by}
use Rattle.pb_check.proofs.laws.right_law.Goals as goal

pub returns : goal.returns
returns c = right_by c.gap_law.ensures.numbers c.sound_law.ensures
