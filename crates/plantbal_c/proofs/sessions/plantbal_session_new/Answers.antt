use Rattle.std.proofs.Common.{refl}
use Rattle.plantbal_c.proofs.sessions.plantbal_session_new.Goals as goal

-- no options were found
pub returns-clause-not_asked : goal.returns-clause-not_asked
returns-clause-not_asked c = λ _. c.in-None-asked.ensures.none refl
