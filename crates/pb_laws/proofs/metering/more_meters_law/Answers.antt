use Rattle.pb_laws.proofs.MeteringLemmas.{more_meters}
use Rattle.pb_laws.proofs.metering.more_meters_law.Goals as goal

pub returns : goal.returns
returns c = more_meters
