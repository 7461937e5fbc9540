use Rattle.pb_site.proofs.PartLemmas.{same_part_law}
use Rattle.pb_site.proofs.laws.same_part_law.Goals as goal

pub returns : goal.returns
returns c = same_part_law
