use Rattle.pb_gap.proofs.OutsideLemmas.{outside_law}
use Rattle.pb_gap.proofs.laws.outside_law.Goals as goal

pub returns : goal.returns
returns c = outside_law
