use Rattle.pb_graph.proofs.CutLemmas.{boundary_sum}
use Rattle.pb_graph.proofs.laws.boundary_sum_law.Goals as goal

pub returns : goal.returns
returns c = boundary_sum
