use Rattle.pb_gap.proofs.LeastLemmas.{orthogonality, excess, distance}
use Rattle.pb_gap.proofs.laws.least_law.Goals as goal

pub returns : goal.returns
returns c = record { orthogonal = orthogonality; excess = excess; distance = distance }
