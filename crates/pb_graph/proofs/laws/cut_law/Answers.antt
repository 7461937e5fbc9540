use Rattle.pb_graph.proofs.CutLemmas.{cut_determines}
use Rattle.pb_graph.proofs.laws.cut_law.Goals as goal

pub returns : goal.returns
returns c = cut_determines
