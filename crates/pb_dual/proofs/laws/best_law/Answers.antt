use Rattle.pb_dual.proofs.FitLaws.{best_law}
use Rattle.pb_dual.proofs.laws.best_law.Goals as goal

pub returns : goal.returns
returns c = best_law
