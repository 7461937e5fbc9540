use Rattle.pb_forest.proofs.ForestLaws.{part_law}
use Rattle.pb_forest.proofs.laws.part_law.Goals as goal

pub returns : goal.returns
returns c = part_law
