use Rattle.pb_plan.proofs.JoinLemmas.{form_is}
use Rattle.pb_plan.proofs.laws.window_form_law.Goals as goal

pub returns : goal.returns
returns c = form_is
