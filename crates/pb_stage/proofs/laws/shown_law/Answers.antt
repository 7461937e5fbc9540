use Rattle.pb_stage.proofs.StageLaws.{shown}
use Rattle.pb_stage.proofs.laws.shown_law.Goals as goal

pub returns : goal.returns
returns c = shown
