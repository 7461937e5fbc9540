use Rattle.pb_gap.proofs.Weights.{have_weights}
use Rattle.pb_gap.proofs.laws.weight_law.Goals as goal

pub returns : goal.returns
returns c = have_weights
