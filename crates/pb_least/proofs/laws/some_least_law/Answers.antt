use Rattle.pb_least.proofs.LeastLemmas.{some_least}
use Rattle.pb_least.proofs.laws.some_least_law.Goals as goal

pub returns : goal.returns
returns c = some_least c.weight_law.ensures
