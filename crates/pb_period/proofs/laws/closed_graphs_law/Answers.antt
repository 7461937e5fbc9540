use Rattle.pb_period.proofs.GraphLaws.{closed_graphs_law}
use Rattle.pb_period.proofs.laws.closed_graphs_law.Goals as goal

pub returns : goal.returns
returns c = closed_graphs_law
