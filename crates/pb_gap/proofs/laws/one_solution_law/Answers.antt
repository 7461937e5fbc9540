use Rattle.pb_gap.proofs.States.{one_solution}
use Rattle.pb_gap.proofs.laws.one_solution_law.Goals as goal

pub returns : goal.returns
returns c = one_solution
