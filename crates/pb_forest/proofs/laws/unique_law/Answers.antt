use Rattle.pb_forest.proofs.ForestLaws.{unique_law}
use Rattle.pb_forest.proofs.laws.unique_law.Goals as goal

pub returns : goal.returns
returns c = unique_law
