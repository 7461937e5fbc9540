use Rattle.pb_dual.proofs.SweepLaws.{ascent_law}
use Rattle.pb_dual.proofs.laws.ascent_law.Goals as goal

pub returns : goal.returns
returns c = ascent_law
