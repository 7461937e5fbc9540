use Rattle.pb_site.proofs.KeptLemmas.{growth_law}
use Rattle.pb_site.proofs.laws.growth_law.Goals as goal

pub returns : goal.returns
returns c = growth_law
