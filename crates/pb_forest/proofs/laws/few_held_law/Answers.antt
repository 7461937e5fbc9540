use Rattle.pb_forest.proofs.ForestLaws.{few_held_law}
use Rattle.pb_forest.proofs.laws.few_held_law.Goals as goal

pub returns : goal.returns
returns c = few_held_law
