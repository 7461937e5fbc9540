use Rattle.pb_elim.proofs.ThroughoutLemmas.{least_throughout}
use Rattle.pb_elim.proofs.laws.least_throughout_law.Goals as goal

pub returns : goal.returns
returns c = least_throughout
