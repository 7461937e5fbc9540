use Rattle.pb_elim.proofs.StudyLaws.{decided}
use Rattle.pb_elim.proofs.laws.decided_law.Goals as goal

pub returns : goal.returns
returns c = decided
