use Rattle.pb_grades.proofs.MeaningLemmas.{first_is}
use Rattle.pb_grades.proofs.laws.first_over_law.Goals as goal

pub returns : goal.returns
returns c = first_is
