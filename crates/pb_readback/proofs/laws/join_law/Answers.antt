use Rattle.pb_readback.proofs.NextLemmas.{join_holds}
use Rattle.pb_readback.proofs.laws.join_law.Goals as goal

pub returns : goal.returns
returns c = record { law = join_holds }
