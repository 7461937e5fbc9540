use Rattle.pb_forest.proofs.ForestLaws.{some_path_law}
use Rattle.pb_forest.proofs.laws.some_path_law.Goals as goal

pub returns : goal.returns
returns c = some_path_law
