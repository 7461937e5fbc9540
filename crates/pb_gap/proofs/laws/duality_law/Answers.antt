use Rattle.pb_gap.proofs.Identity.{identity, weak_duality}
use Rattle.pb_gap.proofs.laws.duality_law.Goals as goal

pub returns : goal.returns
returns c = record { identity = identity; weak = weak_duality }
