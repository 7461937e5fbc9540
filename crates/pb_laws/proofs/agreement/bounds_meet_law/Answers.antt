use Rattle.pb_laws.proofs.AgreementLemmas.{bounds_meet, least_bounds_meet}
use Rattle.pb_laws.proofs.agreement.bounds_meet_law.Goals as goal

pub returns : goal.returns
returns c = record { bounds = bounds_meet c.some_least_law.ensures; least = least_bounds_meet c.some_least_law.ensures }
