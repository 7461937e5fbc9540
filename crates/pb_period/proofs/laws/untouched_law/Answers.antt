use Rattle.pb_period.proofs.GraphLaws.{untouched_law}
use Rattle.pb_period.proofs.laws.untouched_law.Goals as goal

pub returns : goal.returns
returns c = untouched_law
