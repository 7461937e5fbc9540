use Rattle.pb_laws.proofs.DropOrderLemmas.{drop_order}
use Rattle.pb_laws.proofs.drops.drop_order_law.Goals as goal

pub returns : goal.returns
returns c = drop_order c.certified_law.ensures c.ends_law.ensures
