use Rattle.pb_least.proofs.LeastLemmas.{one_least}
use Rattle.pb_least.proofs.OtherLeastLemmas.{other_least}
use Rattle.pb_least.proofs.laws.one_least_law.Goals as goal

pub returns : goal.returns
returns c = record { same = one_least c.weight_law.ensures c.least_law.ensures.excess; other = other_least }
