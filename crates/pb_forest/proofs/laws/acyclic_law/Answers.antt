use Rattle.pb_forest.proofs.ForestLaws.{acyclic_law}
use Rattle.pb_forest.proofs.laws.acyclic_law.Goals as goal

pub returns : goal.returns
returns c = acyclic_law
