use Rattle.pb_laws.proofs.NodalLemmas.{in_order, one_test}
use Rattle.pb_laws.proofs.nodal.nodal_order_law.Goals as goal

pub returns : goal.returns
returns c = record { order = in_order; one = one_test c.free_groups_law.ensures }
