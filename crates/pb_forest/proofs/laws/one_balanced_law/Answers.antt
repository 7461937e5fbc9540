use Rattle.pb_forest.proofs.ForestLaws.{one_balanced_law}
use Rattle.pb_forest.proofs.laws.one_balanced_law.Goals as goal

pub returns : goal.returns
returns c = one_balanced_law
