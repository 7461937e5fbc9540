use Rattle.pb_laws.proofs.NestedLemmas.{nested}
use Rattle.pb_laws.proofs.flows.nested_bounds_law.Goals as goal

pub returns : goal.returns
returns c = nested c.duality_law.ensures.identity c.gap_law.ensures.excess c.schwarz_law.ensures c.stream_law.ensures.sum
