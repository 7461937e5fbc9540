use Rattle.pb_grades.proofs.MeaningLemmas.{component_is}
use Rattle.pb_grades.proofs.laws.component_law.Goals as goal

pub returns : goal.returns
returns c = component_is
