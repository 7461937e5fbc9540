use Rattle.pb_forest.proofs.ForestLaws.{spans_law}
use Rattle.pb_forest.proofs.laws.spans_law.Goals as goal

pub returns : goal.returns
returns c = spans_law
