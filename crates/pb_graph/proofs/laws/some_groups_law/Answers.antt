use Rattle.pb_graph.proofs.GroupLaws.{some_groups_law}
use Rattle.pb_graph.proofs.laws.some_groups_law.Goals as goal

pub returns : goal.returns
returns c = some_groups_law
