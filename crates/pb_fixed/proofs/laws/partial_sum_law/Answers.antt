use Rattle.pb_fixed.proofs.PartialSums.{partial_sum}
use Rattle.pb_fixed.proofs.laws.partial_sum_law.Goals as goal

pub returns : goal.returns
returns g c = partial_sum
