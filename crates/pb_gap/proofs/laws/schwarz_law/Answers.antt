use Rattle.pb_gap.proofs.SchwarzLemmas.{error_schwarz}
use Rattle.pb_gap.proofs.laws.schwarz_law.Goals as goal

pub returns : goal.returns
returns c = error_schwarz
