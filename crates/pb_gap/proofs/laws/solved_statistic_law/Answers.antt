use Rattle.pb_gap.proofs.States.{one_solved_statistic, some_solved_statistic}
use Rattle.pb_gap.proofs.laws.solved_statistic_law.Goals as goal

pub returns : goal.returns
returns c = record { some = some_solved_statistic; one = one_solved_statistic }
