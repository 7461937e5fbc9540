use Rattle.pb_period.proofs.GraphLaws.{agreeing_law}
use Rattle.pb_period.proofs.laws.agreeing_law.Goals as goal

pub returns : goal.returns
returns c = agreeing_law
