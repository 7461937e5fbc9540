use Rattle.std.proofs.Common.{◌≡◌, ◌∙◌, ◌≤◌, ℕ, ℤ, ◌≤ℤ◌, ap, sym, subst, arith}
use Rattle.pb_graph.specs.ProcessGraph.{ProcessGraph}
use Rattle.pb_graph.specs.Groups.{group_count}
use Rattle.pb_graph.specs.Prices.{PricesFit}
use Rattle.pb_dual.specs.DualValue.{dual_value}
use Rattle.pb_dual.specs.Sweeps.{swept}
use Rattle.pb_dual.specs.Priced.{price_of}
use Rattle.pb_dual.proofs.DualLaws.{apart}
use Rattle.pb_dual.proofs.SweepLaws.{sweep_improves}
use Rattle.pb_dual.proofs.dual.Dual.sweep.Goals as goal

pub returns-clause-fit : goal.returns-clause-fit
returns-clause-fit c =
    let d = c.args.self.now in
    let h = c.groups-group-end.ensures.priced in
    let end : c.loop-group.group ≡ group_count d.group = omega (arith, c.loop-group-test.false, c.loop-group.auto.group-end, c.groups-group-end.ensures.value) in
    let is = c.loop-group.invariant.price ∙ ap (swept d.group d.graph.streams (price_of d)) end in
    let improves = sweep_improves d.graph d.group (price_of d) (group_count d.group) h.limits h.groups h.fit in
    subst (λ (g : ProcessGraph). PricesFit g (price_of c.loop-group.self)) (sym c.loop-group.invariant.graph) (subst (PricesFit d.graph) (sym is) improves.fit)

pub returns-clause-ascent : goal.returns-clause-ascent
returns-clause-ascent c =
    let d = c.args.self.now in
    let h = c.groups-group-end.ensures.priced in
    let end : c.loop-group.group ≡ group_count d.group = omega (arith, c.loop-group-test.false, c.loop-group.auto.group-end, c.groups-group-end.ensures.value) in
    let is = c.loop-group.invariant.price ∙ ap (swept d.group d.graph.streams (price_of d)) end in
    let improves = sweep_improves d.graph d.group (price_of d) (group_count d.group) h.limits h.groups h.fit in
    subst (λ (p : ℕ → ℤ). dual_value (price_of d) d.graph.streams ≤ℤ dual_value p d.graph.streams) (sym is) improves.up

pub returns-clause-moved : goal.returns-clause-moved
returns-clause-moved c told =
    let d = c.args.self.now in
    let h = c.groups-group-end.ensures.priced in
    let inv = c.loop-group.invariant in
    let end : c.loop-group.group ≤ group_count d.group = omega (arith, c.loop-group.auto.group-end, c.groups-group-end.ensures.value) in
    let (k, lt, ne) = inv.told told in
    apart d c.loop-group.self k h.groups inv.groups (omega (arith, lt, end)) ne
