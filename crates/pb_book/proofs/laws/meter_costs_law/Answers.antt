use Rattle.pb_book.proofs.CostLemmas.{meters_in_range}
use Rattle.pb_book.proofs.laws.meter_costs_law.Goals as goal

pub returns : goal.returns
returns c = meters_in_range c.named_costs_law.ensures
