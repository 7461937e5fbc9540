use Rattle.std.proofs.Common.{◌≡◌, ◌∙◌, ◌<◌, ◌≤◌, ℤ, pos, Some, length, slice_get, FitsSigned, unsigned_abs, ap, sym, subst, arith}
use mir.Syntax.{w128}
use Rattle.std.proofs.lemmas.Int.{ints}
use Rattle.std.proofs.lemmas.List.{get_or_default, length-map}
use Rattle.std.proofs.lemmas.Option.{get_or_from_slice_get}
use Rattle.std.proofs.Math.Facts.{to_z-of_z}
use Rattle.pb_graph.specs.ProcessGraph.{some_stream}
use Rattle.pb_dual.specs.declared.dual.Dual.TheInside.{Inside}
use Rattle.pb_dual.specs.DualValue.{dual_flow, most_dual_flow}
use Rattle.pb_dual.specs.Priced.{Priced, price_of}
use Rattle.pb_dual.proofs.DualLaws.{kept_small}
use Rattle.pb_dual.proofs.FlowLemmas.{flow_item}
use Rattle.pb_dual.proofs.dual.Dual.dual_flow.Goals.{After-index}
use Rattle.pb_dual.proofs.dual.Dual.dual_flow.Goals as goal

-- the value of the fields
abbrev view : Inside → Priced
view a = record { graph = a.graph.now; group = a.group.items; prices = a.prices.items }

below : (c : After-index) → c.args.stream < length (view c.self.inside).graph.streams
below c = omega (arith, c.requires, ap (λ (p : Priced). length p.graph.streams) c.self.view_is)

there : (c : After-index) → c.args.stream < length c.self.inside.flows.items
there c =
    let d = view c.self.inside in
    omega (arith, below c, ap length c.self.invariant.kept, length-map d.graph.streams (dual_flow (price_of d)))

small : (c : After-index) → unsigned_abs c.index.result.now ≤ most_dual_flow
small c =
    let d = view c.self.inside in
    let h = c.self.invariant in
    subst (λ (u : ℤ). unsigned_abs u ≤ most_dual_flow) (sym c.index.ensures) (kept_small d c.self.inside.flows.items h.priced h.kept c.args.stream c.index.result.now (there c))

pub returns-clause-value : goal.returns-clause-value
returns-clause-value c =
    let d = view c.self.inside in
    let j = c.args.stream in
    let x = c.index.result.now in
    let front = (goal.at.returns-clause-value c).After-index in
    let tiny = small front in
    let fits : FitsSigned w128 x = omega (arith, ints, tiny) in
    simp to_z-of_z (λ s at.
    let here : slice_get d.graph.streams j ≡ Some s = ap (λ (p : Priced). slice_get p.graph.streams j) c.self.view_is ∙ at in
    c.index.ensures
    ∙ get_or_default c.self.inside.flows.items j x (pos 0) (there front)
    ∙ flow_item (price_of d) c.self.inside.flows.items d.graph.streams j s c.self.invariant.kept (below front) (get_or_from_slice_get d.graph.streams j s some_stream here)
    ∙ ap (λ (p : Priced). dual_flow (price_of p) s) c.self.view_is)

pub returns-clause-within : goal.returns-clause-within
returns-clause-within c =
    let tiny = small (goal.at.returns-clause-within c).After-index in
    let fits : FitsSigned w128 c.index.result.now = omega (arith, ints, tiny) in
    simp to_z-of_z tiny
