use Rattle.pb_forest.proofs.ForestLaws.{one_forest_law}
use Rattle.pb_forest.proofs.laws.one_forest_law.Goals as goal

pub returns : goal.returns
returns c = one_forest_law
