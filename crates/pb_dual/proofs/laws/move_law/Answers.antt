use Rattle.pb_dual.proofs.MoveLaws.{move_law}
use Rattle.pb_dual.proofs.laws.move_law.Goals as goal

pub returns : goal.returns
returns c = move_law
