use Rattle.pb_grades.proofs.ErrorLemmas.{error_is}
use Rattle.pb_grades.proofs.laws.error_law.Goals as goal

pub returns : goal.returns
returns c = error_is
