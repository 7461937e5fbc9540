use Rattle.pb_readback.proofs.FormedLemmas.{formed_holds}
use Rattle.pb_readback.proofs.laws.formed_law.Goals as goal

pub returns : goal.returns
returns c = record { law = formed_holds }
