use Rattle.pb_make.proofs.MakeLaws.{period_law}
use Rattle.pb_make.proofs.laws.period_law.Goals as goal

pub returns : goal.returns
returns c = period_law
