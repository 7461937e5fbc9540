use Rattle.pb_stage.proofs.FreeTestLemmas.{free_groups}
use Rattle.pb_stage.proofs.laws.free_groups_law.Goals as goal

pub returns : goal.returns
returns c = free_groups
