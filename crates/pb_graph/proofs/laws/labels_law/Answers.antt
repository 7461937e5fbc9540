use Rattle.pb_graph.proofs.PartLemmas.{labels_tell}
use Rattle.pb_graph.proofs.laws.labels_law.Goals as goal

pub returns : goal.returns
returns c = λ streams nodes may labels a b is la lb. labels_tell streams nodes may labels a b la lb is
