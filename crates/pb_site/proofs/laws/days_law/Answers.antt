use Rattle.pb_site.proofs.PartLemmas.{days_law}
use Rattle.pb_site.proofs.laws.days_law.Goals as goal

pub returns : goal.returns
returns c = days_law
