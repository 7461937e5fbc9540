use Rattle.pb_make.proofs.ReadingLemmas.{metered, metered_each, metered_rises, metered_within}
use Rattle.pb_make.proofs.laws.metered_law.Goals as goal

pub returns : goal.returns
returns c = record { metered = metered; rise = metered_rises; within = metered_within; each = metered_each }
