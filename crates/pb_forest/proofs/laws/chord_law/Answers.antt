use Rattle.pb_forest.proofs.ForestLaws.{chord_law}
use Rattle.pb_forest.proofs.laws.chord_law.Goals as goal

pub returns : goal.returns
returns c = chord_law
