use Rattle.pb_laws.proofs.PeriodLemmas.{closed_exactly, opened_alone}
use Rattle.pb_laws.proofs.periods.closed_law.Goals as goal

pub returns : goal.returns
returns c = record { closed = closed_exactly c.accepted_law.ensures; opened = opened_alone }
