use Rattle.pb_check.proofs.VerdictLemmas.{place_law}
use Rattle.pb_check.proofs.verdicts.place_law.Goals as goal

pub returns : goal.returns
returns c = place_law
