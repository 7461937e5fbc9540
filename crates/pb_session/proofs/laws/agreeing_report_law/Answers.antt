use Rattle.pb_session.proofs.AgreeingLemmas.{agreeing_report, closing}
use Rattle.pb_session.proofs.laws.agreeing_report_law.Goals as goal

pub returns : goal.returns
returns c = record { agreeing = agreeing_report c.agreeing_law.ensures; closing = closing c.plain_graphs_law.ensures }
