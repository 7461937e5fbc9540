use Rattle.std.proofs.Common.{true, FitsSigned, subst, rules}
use mir.Syntax.{w128}
use Rattle.std.specs.Prelude.{IsTrue, ◌↔◌}
use Rattle.std.proofs.Math.Facts.{to_z-of_z}
use Rattle.pb_gap.specs.Gap.{Gap, MeetsGap}
use Rattle.pb_gap.proofs.Deviants.{gap_written, not_near}
use Rattle.pb_gap.proofs.flow_pair.FlowPair.is_met.Goals as goal

pub returns-then-not-near : goal.returns-then-not-near
returns-then-not-near c = record {
  met = λ price of_price.
      let i = c.self.inside in
      let fits : FitsSigned w128 c.most_deviation.result = record { sfits = c.most_deviation.type_inv } in
      let far = simp to_z-of_z at c.write_near_deviations-near.ensures.far in
      let none = not_near c.args.self.now i.graph.now i.dual_flows.now i.flows.now c.streams-streams.result.now c.args.thousandths c.write_near_deviations-near.result c.most_deviation.result price
      c.self.view_is c.streams-streams.ensures.value c.most_deviation.ensures c.if-not-near.true far of_price in
      (λ no_. search rules, λ met. absurd (none met));
}

pub returns : goal.returns
returns c = record {
  met = λ price of_price.
      let i = c.self.inside in
      let yes_ : IsTrue true = search rules in
      let gap = gap_written c.args.self.now i.graph.now i.dual_flows.now i.flows.now c.write_near_deviations-near.new.out c.streams-streams.result.now c.gap_from.result price c.self.view_is
      c.streams-streams.ensures.value (c.if-not-near.ensures.value yes_) c.gap_from.ensures.value of_price in
      subst (λ (gap : Gap). IsTrue c.is_met.result ↔ MeetsGap c.args.thousandths gap) gap c.is_met.ensures;
}
