use Rattle.pb_fixed.proofs.Order.{unsigned_abs-add}
use Rattle.pb_fixed.proofs.Sums.{sum_over-bound, sum_over-triangle}
use Rattle.pb_fixed.proofs.laws.triangle_law.Goals as goal

pub returns : goal.returns
returns g c = record { of_two = unsigned_abs-add; of_sum = sum_over-triangle; of_bound = sum_over-bound }
