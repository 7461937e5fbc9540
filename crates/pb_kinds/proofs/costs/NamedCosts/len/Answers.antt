use Rattle.std.proofs.Common.{◌≡◌, ◌∙◌, List, length, refl, ap, sym}
use Rattle.pb_kinds.specs.declared.costs.NamedCost.{NamedCost}
use Rattle.pb_kinds.specs.Costs.{costs_in}
use Rattle.pb_kinds.specs.There.{costs_by}
use Rattle.pb_kinds.proofs.CostLemmas.{half_many}
use Rattle.pb_kinds.proofs.costs.NamedCosts.len.Goals as goal

pub returns : goal.returns
returns c =
    let are = c.self.invariant in
    let same : c.args.self.now ≡ costs_in are.values = sym c.self.view_is ∙ ap costs_by are.read in
    are.half ∙ sym (half_many (length c.self.inside.pairs) c.self.inside.pairs are.values refl are.read) ∙ sym (ap (λ (costs : List NamedCost). length costs) same)
