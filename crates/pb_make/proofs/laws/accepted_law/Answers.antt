use Rattle.pb_make.proofs.MakeLaws.{accepted_law}
use Rattle.pb_make.proofs.laws.accepted_law.Goals as goal

pub returns : goal.returns
returns c = accepted_law
