use Rattle.pb_laws.proofs.FlowLemmas.{own_bounds}
use Rattle.pb_laws.proofs.flows.own_bounds_law.Goals as goal

pub returns : goal.returns
returns c = own_bounds
