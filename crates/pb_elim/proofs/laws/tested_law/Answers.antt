use Rattle.pb_elim.proofs.TestLemmas.{tested}
use Rattle.pb_elim.proofs.laws.tested_law.Goals as goal

pub returns : goal.returns
returns c = tested
