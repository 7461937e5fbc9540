use Rattle.pb_graph.proofs.CirculationLemmas.{cycle_frees}
use Rattle.pb_graph.proofs.laws.cycle_law.Goals as goal

pub returns : goal.returns
returns c = cycle_frees
