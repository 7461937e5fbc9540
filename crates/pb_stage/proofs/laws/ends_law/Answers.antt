use Rattle.pb_stage.proofs.TestLaws.{ends}
use Rattle.pb_stage.proofs.laws.ends_law.Goals as goal

pub returns : goal.returns
returns c = ends
