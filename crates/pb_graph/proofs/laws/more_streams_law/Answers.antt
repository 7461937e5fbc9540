use Rattle.pb_graph.proofs.WalkLemmas.{reach_more}
use Rattle.pb_graph.proofs.laws.more_streams_law.Goals as goal

pub returns : goal.returns
returns c = λ streams may more a b within r. reach_more may more streams a b within r
