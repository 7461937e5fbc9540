use Rattle.std.proofs.Common.{◌≡◌, ◌∙◌, ◌<◌, ◌≤◌, ◌^◌, ℕ, ℤ, pos, List, length, set, FitsSigned, unsigned_abs, ap, sym, subst, arith}
use mir.Syntax.{w128}
use Rattle.std.specs.Prelude.{All}
use Rattle.std.specs.Int.{int_max}
use Rattle.std.proofs.lemmas.Int.{ints}
use Rattle.std.proofs.Math.Facts.{to_z-of_z}
use Rattle.pb_graph.specs.Groups.{group_count}
use Rattle.pb_graph.specs.Prices.{PricesFit}
use Rattle.pb_dual.specs.declared.border.BorderStream.{BorderStream}
use Rattle.pb_dual.specs.declared.dual.Dual.TheInside.{Inside}
use Rattle.pb_dual.specs.Moves.{with_price}
use Rattle.pb_dual.specs.Border.{AreBorder, IsDual, IsPriced, border_of}
use Rattle.pb_dual.specs.Priced.{Priced, price_of}
use Rattle.pb_dual.proofs.FlowLemmas.{put_back}
use Rattle.pb_dual.proofs.DualLaws.{are_border, at_border, border_at, moved_dual, moved_priced, prices_small, set_price, writes}
use Rattle.pb_dual.proofs.dual.Dual.set_price.Goals.{After-deref_mut}
use Rattle.pb_dual.proofs.dual.Dual.set_price.Goals as goal

-- the value of the fields
abbrev view : Inside → Priced
view a = record { graph = a.graph.now; group = a.group.items; prices = a.prices.items }

abbrev next : Inside → ℕ → ℤ → Priced
next a k price = record (view a) { prices = set (view a).prices k price }

below : (c : After-deref_mut) → c.args.group < group_count (view c.self.inside).group
below c = omega (arith, c.requires.group, ap (λ (p : Priced). group_count p.group) c.self.view_is)

fit : (c : After-deref_mut) → PricesFit (view c.self.inside).graph (with_price (view c.self.inside).group (price_of (view c.self.inside)) c.args.group c.args.price)
fit c = subst (λ (p : Priced). PricesFit p.graph (with_price p.group (price_of p) c.args.group c.args.price)) (sym c.self.view_is) c.requires.fit

priced : (c : After-deref_mut) → IsPriced (next c.self.inside c.args.group c.args.price)
priced c = moved_priced (view c.self.inside) c.args.group c.args.price c.self.invariant.priced (below c) (fit c)

prices_is : (c : After-deref_mut) → c.deref.result.now ≡ (next c.self.inside c.args.group c.args.price).prices
prices_is c =
    let fits : FitsSigned w128 c.args.price = c.ranges.price in
    simp to_z-of_z at c.deref.ensures.value

border_is : (c : After-deref_mut) → c.as_slice.result.now ≡ border_of (view c.self.inside).group c.args.group (view c.self.inside).graph.streams
border_is c =
    let d = view c.self.inside in
    let i = c.self.inside in
    c.as_slice.ensures ∙ border_at d.group d.graph.streams i.borders.items i.variances.items i.rooms.items c.args.group c.index.result.now c.self.invariant.around (below c) c.index.ensures

pub write_flows-requires-clause-border : goal.write_flows-requires-clause-border
write_flows-requires-clause-border c =
    let e = next c.self.inside c.args.group c.args.price in
    subst (λ (prices : List ℤ). AreBorder prices c.args.group c.as_slice.result.now) (sym (prices_is c))
    (subst (λ (b : List BorderStream). AreBorder e.prices c.args.group b) (sym (border_is c)) (are_border e c.args.group (priced c)))

pub write_flows-requires-clause-small : goal.write_flows-requires-clause-small
write_flows-requires-clause-small c =
    subst (λ (prices : List ℤ). All (λ p. unsigned_abs p ≤ 2 ^ 120) prices) (sym (prices_is c)) (prices_small (next c.self.inside c.args.group c.args.price) (priced c))

pub write_flows-requires-clause-there : goal.write_flows-requires-clause-there
write_flows-requires-clause-there c =
    subst (λ (us : List ℤ). All (λ a. a.stream < length us) c.as_slice.result.now) (sym c.deref_mut.ensures.value)
    (subst (λ (b : List BorderStream). All (λ a. a.stream < length c.self.inside.flows.items) b) (sym (border_is c)) (at_border (view c.self.inside) c.self.inside.flows.items c.args.group c.self.invariant.kept))

pub invariant_of-self : goal.invariant_of-self
invariant_of-self c =
    let front = (goal.at.invariant_of-self c).After-deref_mut in
    let d = view c.self.inside in
    let i = c.self.inside in
    let k = c.args.group in
    let price = c.args.price in
    let h = c.self.invariant in
    let new = c.write_flows.new.flows in
    let fits_price : FitsSigned w128 price = c.ranges.price in
    let fits_old : FitsSigned w128 i.greatest = omega (arith, ints, h.most.from, h.most.to) in
    let fits : FitsSigned w128 c.greater-self-inside.result = record { sfits = c.greater-self-inside.type_inv } in
    let greater : c.greater-self-inside.result ≡ int_max i.greatest (pos (unsigned_abs price)) = simp to_z-of_z at c.greater-self-inside.ensures in
    let back = put_back i.flows.len new i.flows.items (omega (arith, c.write_flows.auto.flows, c.deref_mut.ensures.len)) in
    let written = writes c.deref.result.now (set d.prices k price) c.deref_mut.result.now i.flows.items c.as_slice.result.now (border_of d.group k d.graph.streams) k new
    (prices_is front) c.deref_mut.ensures.value (border_is front) c.write_flows.ensures in
    let kept = moved_dual d i.flows.items new i.variances.items i.rooms.items i.borders.items i.greatest c.greater-self-inside.result k price h (below front) (fit front) c.requires.within greater written in
    simp to_z-of_z (subst (λ (us : List ℤ). IsDual (next i k price) us i.borders.items i.variances.items i.rooms.items c.greater-self-inside.result) (sym back) kept)

pub returns-clause-price : goal.returns-clause-price
returns-clause-price c =
    let front = (goal.at.returns-clause-price c).After-deref_mut in
    let d = view c.self.inside in
    let k = c.args.group in
    let fits_price : FitsSigned w128 c.args.price = c.ranges.price in
    simp to_z-of_z (set_price d k c.args.price (omega (arith, below front, c.self.invariant.priced.each)) ∙ ap (λ (p : Priced). with_price p.group (price_of p) k c.args.price) c.self.view_is)
