use Rattle.pb_elim.proofs.StudyLaws.{certified}
use Rattle.pb_elim.proofs.laws.certified_law.Goals as goal

pub returns : goal.returns
returns c = certified
