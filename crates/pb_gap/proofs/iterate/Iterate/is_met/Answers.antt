use Rattle.std.proofs.Common.{◌≡◌, ◌∙◌, ap}
use Rattle.pb_gap.specs.State.{State}
use Rattle.pb_gap.proofs.SolveLemmas.{far_same}
use Rattle.pb_gap.proofs.iterate.Iterate.is_met.Goals as goal

pub returns-clause-far : goal.returns-clause-far
returns-clause-far c fails flows rounded meets =
    let asked : c.has_far_net.new.self ≡ c.args.self.now = c.has_far_net.ensures.same in
    let settled = c.settle.ensures in
    far_same c.args.self.now c.settle.new.self c.args.gap c.is_near.result
    (record {
      graph = settled.graph ∙ ap (λ (s : State). s.graph) asked;
      numbers = settled.group ∙ ap (λ (s : State). s.group) asked;
      prices = settled.prices ∙ ap (λ (s : State). s.prices) asked;
    }) settled.state c.is_near.ensures.met fails flows rounded meets
