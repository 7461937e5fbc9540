use Rattle.std.proofs.Common.{refl}
use Rattle.plantbal_c.proofs.runs.plantbal_run.Goals as goal

-- no options were found
pub returns-in-None-asked-clause-not_asked : goal.returns-in-None-asked-clause-not_asked
returns-in-None-asked-clause-not_asked c = λ _. c.in-None-asked.ensures.none refl
