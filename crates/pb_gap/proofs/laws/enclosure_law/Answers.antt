use Rattle.pb_gap.proofs.Enclosure.{enclosure}
use Rattle.pb_gap.proofs.laws.enclosure_law.Goals as goal

pub returns : goal.returns
returns c = enclosure
