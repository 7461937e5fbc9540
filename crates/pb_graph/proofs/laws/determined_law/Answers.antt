use Rattle.pb_graph.proofs.DeterminedLemmas.{reach_decides}
use Rattle.pb_graph.proofs.laws.determined_law.Goals as goal

pub returns : goal.returns
returns c = reach_decides
