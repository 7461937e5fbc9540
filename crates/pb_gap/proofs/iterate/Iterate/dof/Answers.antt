use Rattle.std.proofs.Common.{◌∙◌, ap}
use Rattle.pb_gap.specs.State.{State}
use Rattle.pb_gap.proofs.Iterates.{one_freedom}
use Rattle.pb_gap.proofs.iterate.Iterate.dof.Goals as goal

pub returns-clause-value : goal.returns-clause-value
returns-clause-value c held forest =
    let i = c.self.inside in
    one_freedom c.args.self.now.graph i.forest.graph c.rank.result i.forest.held held (c.self.invariant.parts.forest ∙ ap (λ (s : State). s.graph) c.self.view_is) c.rank.ensures.value c.rank.ensures.forest forest
