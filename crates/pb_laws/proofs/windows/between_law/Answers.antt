use Rattle.pb_laws.proofs.BetweenLemmas.{between_periods}
use Rattle.pb_laws.proofs.windows.between_law.Goals as goal

pub returns : goal.returns
returns c = between_periods c.accepted_law.ensures
