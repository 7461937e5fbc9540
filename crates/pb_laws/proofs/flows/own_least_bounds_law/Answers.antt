use Rattle.pb_laws.proofs.FlowLemmas.{own_least}
use Rattle.pb_laws.proofs.flows.own_least_bounds_law.Goals as goal

pub returns : goal.returns
returns c = own_least c.stream_law.ensures.sum
