use Rattle.pb_make.proofs.BalanceLemmas.{balanced}
use Rattle.pb_make.proofs.laws.balance_law.Goals as goal

pub returns : goal.returns
returns c = balanced
