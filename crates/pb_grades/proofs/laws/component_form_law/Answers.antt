use Rattle.pb_grades.proofs.FormLemmas.{form_is}
use Rattle.pb_grades.proofs.laws.component_form_law.Goals as goal

pub returns : goal.returns
returns c = form_is
