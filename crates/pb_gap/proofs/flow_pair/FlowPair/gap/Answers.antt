use Rattle.pb_gap.proofs.Deviants.{gap_written}
use Rattle.pb_gap.proofs.flow_pair.FlowPair.gap.Goals as goal

pub gap_from-requires-clause-each : goal.gap_from-requires-clause-each
gap_from-requires-clause-each c = c.write_deviations.ensures.within

pub returns-clause-value : goal.returns-clause-value
returns-clause-value c price of_price =
    let i = c.self.inside in
    gap_written c.args.self.now i.graph.now i.dual_flows.now i.flows.now c.write_deviations.new.out c.streams-streams.result.now c.gap_from.result price c.self.view_is c.streams-streams.ensures.value
    c.write_deviations.ensures.value c.gap_from.ensures.value of_price
