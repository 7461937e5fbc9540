use Rattle.pb_dual.proofs.FitLaws.{candidate_law}
use Rattle.pb_dual.proofs.laws.candidate_law.Goals as goal

pub returns : goal.returns
returns c = candidate_law
