use Rattle.pb_classify.proofs.BridgeLemmas.{points_law}
use Rattle.pb_classify.proofs.laws.points_law.Goals as goal

pub returns : goal.returns
returns c = points_law
