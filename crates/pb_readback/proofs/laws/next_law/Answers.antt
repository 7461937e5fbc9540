use Rattle.pb_readback.proofs.NextLemmas.{next_holds}
use Rattle.pb_readback.proofs.laws.next_law.Goals as goal

pub returns : goal.returns
returns c = record { law = next_holds }
