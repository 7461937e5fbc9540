use Rattle.std.proofs.Common.{◌≡◌, ◌∙◌, ◌<◌, length, ap, arith}
use Rattle.std.proofs.lemmas.List.{get_or_default}
use Rattle.pb_graph.specs.Groups.{group_count}
use Rattle.pb_graph.specs.Grouping.{Grouping}
use Rattle.pb_graph.proofs.GroupLemmas.{number_below}
use Rattle.pb_graph.proofs.groups.Groups.group.Goals as goal

pub returns-clause-within : goal.returns-clause-within
returns-clause-within c =
    let group = c.self.inside.group.items in
    let view : group ≡ c.args.self.now.group = ap (λ (g : Grouping). g.group) c.self.view_is in
    let lt : c.args.node < length group = omega (arith, c.requires, ap length view) in
    let below = number_below group c.args.node lt in
    let is = c.index.ensures ∙ get_or_default group c.args.node c.index.result.now 0 lt in
    let count = ap group_count view in
    omega (arith, below, is, count)
