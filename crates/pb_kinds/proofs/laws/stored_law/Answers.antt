use Rattle.pb_kinds.proofs.RequestLemmas.{stored}
use Rattle.pb_kinds.proofs.laws.stored_law.Goals as goal

pub returns : goal.returns
returns c = stored c.fitting_law.ensures
