use Rattle.pb_laws.proofs.AgreementLemmas.{statistic_order, statistics_meet}
use Rattle.pb_laws.proofs.agreement.statistic_order_law.Goals as goal

pub returns : goal.returns
returns c = record { own = statistic_order; meet = statistics_meet }
