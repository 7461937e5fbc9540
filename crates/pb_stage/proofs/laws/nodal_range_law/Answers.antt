use Rattle.pb_stage.proofs.NodalRangeLemmas.{nodal_range}
use Rattle.pb_stage.proofs.laws.nodal_range_law.Goals as goal

pub returns : goal.returns
returns c = nodal_range
