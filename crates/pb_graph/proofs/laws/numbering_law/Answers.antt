use Rattle.pb_graph.proofs.GroupLaws.{numbering_law}
use Rattle.pb_graph.proofs.laws.numbering_law.Goals as goal

pub returns : goal.returns
returns c = numbering_law
