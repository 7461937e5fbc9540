use Rattle.pb_laws.proofs.ApartLemmas.{flows_meet}
use Rattle.pb_laws.proofs.agreement.flows_meet_law.Goals as goal

pub returns : goal.returns
returns c = flows_meet c.some_least_law.ensures c.schwarz_law.ensures c.stream_law.ensures.sum
