use Rattle.pb_advise.proofs.CycleLemmas.{cycles_is}
use Rattle.pb_advise.proofs.laws.cycles_law.Goals as goal

pub returns : goal.returns
returns c = cycles_is
