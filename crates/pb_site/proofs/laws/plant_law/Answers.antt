use Rattle.pb_site.proofs.KeptLemmas.{plant_law}
use Rattle.pb_site.proofs.laws.plant_law.Goals as goal

pub returns : goal.returns
returns c = plant_law
