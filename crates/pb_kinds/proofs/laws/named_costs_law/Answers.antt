use Rattle.pb_kinds.proofs.CostLemmas.{named_in_range}
use Rattle.pb_kinds.proofs.laws.named_costs_law.Goals as goal

pub returns : goal.returns
returns c = named_in_range c.fitting_law.ensures
