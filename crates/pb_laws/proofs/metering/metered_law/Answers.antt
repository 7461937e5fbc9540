use Rattle.pb_laws.proofs.MeteringLemmas.{metered_advice, metered_design}
use Rattle.pb_laws.proofs.metering.metered_law.Goals as goal

pub returns : goal.returns
returns c = record { design = metered_design; advice = metered_advice c.cheapest_law.ensures c.advice_form_law.ensures }
