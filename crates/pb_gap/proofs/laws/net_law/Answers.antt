use Rattle.pb_gap.proofs.NetLemmas.{net}
use Rattle.pb_gap.proofs.laws.net_law.Goals as goal

pub returns : goal.returns
returns c = net
