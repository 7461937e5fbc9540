use Rattle.pb_gap.proofs.Statistic.{low, high}
use Rattle.pb_gap.proofs.laws.statistic_law.Goals as goal

pub returns : goal.returns
returns c = record { low = low; high = high }
