use Rattle.pb_gap.proofs.RangeLemmas.{ranges}
use Rattle.pb_gap.proofs.laws.range_law.Goals as goal

pub returns : goal.returns
returns c = ranges
