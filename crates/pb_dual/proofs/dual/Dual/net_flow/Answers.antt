use Rattle.std.proofs.Common.{◌≡◌, ◌∙◌, ◌<◌, ◌≤◌, ℤ, List, length, FitsSigned, unsigned_abs, ap, ap₂, sym, subst, arith}
use mir.Syntax.{w128}
use Rattle.std.specs.Prelude.{All}
use Rattle.std.proofs.Math.Facts.{to_z-of_z}
use Rattle.pb_limits.specs.Limits.{most_streams}
use Rattle.pb_graph.specs.Groups.{group_count}
use Rattle.pb_dual.specs.declared.border.BorderStream.{BorderStream}
use Rattle.pb_dual.specs.declared.dual.Dual.TheInside.{Inside}
use Rattle.pb_dual.specs.DualValue.{most_dual_flow}
use Rattle.pb_dual.specs.Moves.{group_flow}
use Rattle.pb_dual.specs.Border.{border_flow, border_of}
use Rattle.pb_dual.specs.Priced.{Priced, price_of}
use Rattle.pb_dual.proofs.BorderLemmas.{flow_border}
use Rattle.pb_dual.proofs.FlowLemmas.{flows_kept}
use Rattle.pb_dual.proofs.DualLaws.{at_border, border_at, border_few, kept_small}
use Rattle.pb_dual.proofs.dual.Dual.net_flow.Goals.{After-deref}
use Rattle.pb_dual.proofs.dual.Dual.net_flow.Goals as goal

-- the value of the fields
abbrev view : Inside → Priced
view a = record { graph = a.graph.now; group = a.group.items; prices = a.prices.items }

border_is : (c : After-deref) → c.as_slice.result.now ≡ border_of (view c.self.inside).group c.args.group (view c.self.inside).graph.streams
border_is c =
    let d = view c.self.inside in
    let i = c.self.inside in
    let lt : c.args.group < group_count d.group = omega (arith, c.requires, ap (λ (p : Priced). group_count p.group) c.self.view_is) in
    c.as_slice.ensures ∙ border_at d.group d.graph.streams i.borders.items i.variances.items i.rooms.items c.args.group c.index.result.now c.self.invariant.around lt c.index.ensures

few : (c : After-deref) → length c.as_slice.result.now ≤ most_streams
few c = subst (λ (b : List BorderStream). length b ≤ most_streams) (sym (border_is c)) (border_few (view c.self.inside) c.args.group c.self.invariant.priced)

pub net_flow-requires-clause-few : goal.net_flow-requires-clause-few
net_flow-requires-clause-few c = few c

pub net_flow-requires-clause-there : goal.net_flow-requires-clause-there
net_flow-requires-clause-there c =
    subst (λ (us : List ℤ). All (λ a. a.stream < length us) c.as_slice.result.now) (sym c.deref.ensures.value)
    (subst (λ (b : List BorderStream). All (λ a. a.stream < length c.self.inside.flows.items) b) (sym (border_is c)) (at_border (view c.self.inside) c.self.inside.flows.items c.args.group c.self.invariant.kept))

pub net_flow-requires-clause-small : goal.net_flow-requires-clause-small
net_flow-requires-clause-small c =
    subst (λ (us : List ℤ). All (λ u. unsigned_abs u ≤ most_dual_flow) us) (sym c.deref.ensures.value) (kept_small (view c.self.inside) c.self.inside.flows.items c.self.invariant.priced c.self.invariant.kept)

pub returns-clause-value : goal.returns-clause-value
returns-clause-value c =
    let d = view c.self.inside in
    let k = c.args.group in
    let fits : FitsSigned w128 c.net_flow.result = record { sfits = c.net_flow.type_inv } in
    let front = (goal.at.returns-clause-value c).After-deref in
    simp to_z-of_z (
    c.net_flow.ensures.value
    ∙ ap₂ border_flow c.deref.ensures.value (border_is front)
    ∙ flow_border d.group (price_of d) c.self.inside.flows.items k 0 d.graph.streams (flows_kept (price_of d) c.self.inside.flows.items d.graph.streams c.self.invariant.kept)
    ∙ ap (λ (p : Priced). group_flow p.group (price_of p) k p.graph.streams) c.self.view_is)

pub returns-clause-within : goal.returns-clause-within
returns-clause-within c =
    let fits : FitsSigned w128 c.net_flow.result = record { sfits = c.net_flow.type_inv } in
    let le = few (goal.at.returns-clause-within c).After-deref in
    let within = c.net_flow.ensures.within in
    simp to_z-of_z (omega (arith, within, le))
