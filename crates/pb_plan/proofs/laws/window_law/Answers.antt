use Rattle.pb_plan.proofs.MeaningLemmas.{window_is}
use Rattle.pb_plan.proofs.laws.window_law.Goals as goal

pub returns : goal.returns
returns c = window_is
