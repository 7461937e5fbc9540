use Rattle.pb_plan.proofs.NameLemmas.{names_are}
use Rattle.pb_plan.proofs.laws.window_names_law.Goals as goal

pub returns : goal.returns
returns c = names_are
