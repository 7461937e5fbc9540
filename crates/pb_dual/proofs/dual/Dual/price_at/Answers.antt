use Rattle.std.proofs.Common.{◌≡◌, ◌∙◌, ◌<◌, ℕ, pos, FitsSigned, length, get_or, ap, arith}
use mir.Syntax.{w128}
use Rattle.std.proofs.Math.Facts.{to_z-of_z}
use Rattle.std.proofs.lemmas.List.{get_or_default}
use Rattle.pb_graph.specs.Groups.{group_at, group_count}
use Rattle.pb_graph.proofs.GroupLaws.{numbers_below}
use Rattle.pb_dual.specs.declared.dual.Dual.TheInside.{Inside}
use Rattle.pb_dual.specs.Priced.{Priced}
use Rattle.pb_dual.proofs.dual.Dual.price_at.Goals.{After-index}
use Rattle.pb_dual.proofs.dual.Dual.price_at.Goals as goal

-- the value of the fields
abbrev view : Inside → Priced
view a = record { graph = a.graph.now; group = a.group.items; prices = a.prices.items }

there : (c : After-index) → c.args.node < length (view c.self.inside).group
there c = omega (arith, c.requires, ap (λ (p : Priced). p.graph.nodes) c.self.view_is, c.self.invariant.priced.groups.each)

group_is : (c : After-index) → c.index.result.now ≡ group_at (view c.self.inside).group c.args.node
group_is c = c.index.ensures ∙ get_or_default (view c.self.inside).group c.args.node c.index.result.now 0 (there c)

pub price-requires : goal.price-requires
price-requires c =
    let front = (goal.at.price-requires c).After-index in
    let below = numbers_below (view c.self.inside).group c.args.node 0 (there front) in
    let is = ap (λ (p : Priced). group_count p.group) c.self.view_is in
    omega (arith, below, group_is front, is)

pub returns-clause-value : goal.returns-clause-value
returns-clause-value c =
    let front = (goal.at.returns-clause-value c).After-index in
    let fits : FitsSigned w128 c.price.result = record { sfits = c.price.type_inv } in
    simp to_z-of_z (
    c.price.ensures.value
    ∙ ap (λ (k : ℕ). get_or c.args.self.now.prices k (pos 0)) (group_is front ∙ ap (λ (p : Priced). group_at p.group c.args.node) c.self.view_is))
