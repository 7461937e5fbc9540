use Rattle.pb_gap.proofs.States.{some_solution}
use Rattle.pb_gap.proofs.laws.some_solution_law.Goals as goal

pub returns : goal.returns
returns c = some_solution
