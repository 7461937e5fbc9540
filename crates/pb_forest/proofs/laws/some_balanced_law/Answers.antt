use Rattle.pb_forest.proofs.ForestLaws.{some_balanced_law}
use Rattle.pb_forest.proofs.laws.some_balanced_law.Goals as goal

pub returns : goal.returns
returns c = some_balanced_law
