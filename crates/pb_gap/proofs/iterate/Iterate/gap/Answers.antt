use Rattle.std.proofs.Common.{◌≡◌}
use Rattle.pb_gap.specs.Gap.{Gap}
use Rattle.pb_gap.proofs.Iterates.{at_state, paired}
use Rattle.pb_gap.proofs.iterate.Iterate.gap.Goals as goal

pub returns-clause-gap : goal.returns-clause-gap
returns-clause-gap c =
    let i = c.self.inside in
    let is = paired c.graph.result.now i.dual c.dual_flows.result.now c.deref-2.result.now i.flows.items c.new-pair.result c.new-pair.ensures c.graph.ensures c.dual_flows.ensures.value c.deref-2.ensures.value in
    record {
      value = at_state (λ (gap : Gap). c.gap.result ≡ gap) c.args.self.now i.dual i.flows.items c.new-pair.result c.self.view_is is c.gap.ensures.value;
      range = c.gap.ensures.range;
    }
