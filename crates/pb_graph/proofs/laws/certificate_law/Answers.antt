use Rattle.pb_graph.proofs.ClassLemmas.{certificate_shows}
use Rattle.pb_graph.proofs.laws.certificate_law.Goals as goal

pub returns : goal.returns
returns c = certificate_shows
