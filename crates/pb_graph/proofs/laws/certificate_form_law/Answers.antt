use Rattle.pb_graph.proofs.CertificateLemmas.{witness_within}
use Rattle.pb_graph.proofs.laws.certificate_form_law.Goals as goal

pub returns : goal.returns
returns c = witness_within
