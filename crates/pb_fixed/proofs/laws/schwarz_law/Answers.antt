use Rattle.pb_fixed.proofs.Schwarz.{schwarz}
use Rattle.pb_fixed.proofs.laws.schwarz_law.Goals as goal

pub returns : goal.returns
returns g c = schwarz
