use Rattle.pb_graph.proofs.GroupLaws.{free_law}
use Rattle.pb_graph.proofs.laws.free_law.Goals as goal

pub returns : goal.returns
returns c = free_law
