use Rattle.pb_graph.proofs.GroupLaws.{crossing_law}
use Rattle.pb_graph.proofs.laws.crossing_law.Goals as goal

pub returns : goal.returns
returns c = crossing_law
