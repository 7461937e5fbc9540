use Rattle.pb_dual.proofs.SweepLaws.{idle_law}
use Rattle.pb_dual.proofs.laws.idle_law.Goals as goal

pub returns : goal.returns
returns c = idle_law
