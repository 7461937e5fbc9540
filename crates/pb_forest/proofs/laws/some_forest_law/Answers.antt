use Rattle.pb_forest.proofs.ForestLaws.{some_forest_law}
use Rattle.pb_forest.proofs.laws.some_forest_law.Goals as goal

pub returns : goal.returns
returns c = some_forest_law
