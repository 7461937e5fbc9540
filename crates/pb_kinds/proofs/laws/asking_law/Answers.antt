use Rattle.pb_kinds.proofs.KindLaws.{asking_law}
use Rattle.pb_kinds.proofs.laws.asking_law.Goals as goal

pub returns : goal.returns
returns c = asking_law
