use Rattle.pb_fixed.proofs.Sums.{sum_over-swap}
use Rattle.pb_fixed.proofs.laws.double_sum_law.Goals as goal

pub returns : goal.returns
returns g c = sum_over-swap
