use Rattle.pb_elim.proofs.SolutionLemmas.{solution}
use Rattle.pb_elim.proofs.laws.solution_law.Goals as goal

pub returns : goal.returns
returns c = solution
