use Rattle.std.specs.Prelude.{IsTrue, ◌↔◌}
use Rattle.pb_gap.specs.Gap.{Gap, MeetsGap}
use Rattle.pb_gap.proofs.Iterates.{at_state, paired}
use Rattle.pb_gap.proofs.iterate.Iterate.is_near.Goals as goal

pub returns-clause-met : goal.returns-clause-met
returns-clause-met c =
    let i = c.self.inside in
    let is = paired c.graph.result.now i.dual c.dual_flows.result.now c.deref-2.result.now i.flows.items c.new-pair.result c.new-pair.ensures c.graph.ensures c.dual_flows.ensures.value c.deref-2.ensures.value in
    at_state (λ (gap : Gap). IsTrue c.is_met.result ↔ MeetsGap c.args.gap gap) c.args.self.now i.dual i.flows.items c.new-pair.result c.self.view_is is c.is_met.ensures.met
