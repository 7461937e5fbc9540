use Rattle.std.proofs.Common.{◌≡◌, ◌∙◌, ◌<◌, ◌≤◌, ◌^◌, ◌*◌, ℤ, pos, ◌<ℤ◌, true, List, length, get_or, FitsSigned, unsigned_abs, ap, sym, subst, arith}
use mir.Syntax.{w128}
use Rattle.std.specs.Prelude.{All}
use Rattle.std.proofs.lemmas.Int.{ints}
use Rattle.std.proofs.lemmas.List.{get_or_default}
use Rattle.std.proofs.Math.Facts.{to_z-of_z}
use Rattle.pb_limits.specs.Limits.{most_streams}
use Rattle.pb_graph.specs.Groups.{group_count, is_free_group}
use Rattle.pb_dual.specs.declared.border.BorderStream.{BorderStream}
use Rattle.pb_dual.specs.declared.dual.Dual.TheInside.{Inside}
use Rattle.pb_dual.specs.DualValue.{most_dual_flow}
use Rattle.pb_dual.specs.Border.{AreBorder, border_of, border_room, border_variance}
use Rattle.pb_dual.specs.Priced.{Priced}
use Rattle.pb_dual.proofs.BoxLemmas.{room_size}
use Rattle.pb_dual.proofs.DualLaws.{IsRise, are_border, at_border, border_at, border_few, by_parts, free_positive, kept_small, price_small, room_at, variance_at, variance_small}
use Rattle.pb_dual.proofs.dual.Dual.best_price.Goals.{After-deref}
use Rattle.pb_dual.proofs.dual.Dual.best_price.Goals as goal

-- the value of the fields
abbrev view : Inside → Priced
view a = record { graph = a.graph.now; group = a.group.items; prices = a.prices.items }

below : (c : After-deref) → c.args.group < group_count (view c.self.inside).group
below c = omega (arith, c.requires.group, ap (λ (p : Priced). group_count p.group) c.self.view_is)

free : (c : After-deref) → is_free_group (view c.self.inside).group (view c.self.inside).graph.streams c.args.group ≡ true
free c = ap (λ (p : Priced). is_free_group p.group p.graph.streams c.args.group) c.self.view_is ∙ c.requires.free

border_is : (c : After-deref) → c.as_slice-border.result.now ≡ border_of (view c.self.inside).group c.args.group (view c.self.inside).graph.streams
border_is c =
    let d = view c.self.inside in
    let i = c.self.inside in
    c.as_slice-border.ensures ∙ border_at d.group d.graph.streams i.borders.items i.variances.items i.rooms.items c.args.group c.index.result.now c.self.invariant.around (below c) c.index.ensures

few : (c : After-deref) → length c.as_slice-border.result.now ≤ most_streams
few c = subst (λ (b : List BorderStream). length b ≤ most_streams) (sym (border_is c)) (border_few (view c.self.inside) c.args.group c.self.invariant.priced)

own_is : (c : After-deref) → c.index-2.result.now ≡ get_or (view c.self.inside).prices c.args.group (pos 0)
own_is c = c.index-2.ensures ∙ get_or_default (view c.self.inside).prices c.args.group c.index-2.result.now (pos 0) (omega (arith, below c, c.self.invariant.priced.each))

own_small : (c : After-deref) → unsigned_abs c.index-2.result.now ≤ 2 ^ 120
own_small c = subst (λ (x : ℤ). unsigned_abs x ≤ 2 ^ 120) (sym (own_is c)) (price_small (view c.self.inside) c.args.group c.self.invariant.priced (omega (arith, below c, c.self.invariant.priced.each)))

pub net_flow-requires-clause-few : goal.net_flow-requires-clause-few
net_flow-requires-clause-few c = few c

pub net_flow-requires-clause-there : goal.net_flow-requires-clause-there
net_flow-requires-clause-there c =
    subst (λ (us : List ℤ). All (λ a. a.stream < length us) c.as_slice-border.result.now) (sym c.deref.ensures.value)
    (subst (λ (b : List BorderStream). All (λ a. a.stream < length c.self.inside.flows.items) b) (sym (border_is c)) (at_border (view c.self.inside) c.self.inside.flows.items c.args.group c.self.invariant.kept))

pub net_flow-requires-clause-small : goal.net_flow-requires-clause-small
net_flow-requires-clause-small c =
    subst (λ (us : List ℤ). All (λ u. unsigned_abs u ≤ most_dual_flow) us) (sym c.deref.ensures.value) (kept_small (view c.self.inside) c.self.inside.flows.items c.self.invariant.priced c.self.invariant.kept)

-- the parts of the nearest price
variance_is : (c : After-deref) (x : ℤ) → x ≡ get_or c.self.inside.variances.items c.args.group x
    → x ≡ border_variance (border_of (view c.self.inside).group c.args.group (view c.self.inside).graph.streams)
variance_is c x is =
    let d = view c.self.inside in
    let i = c.self.inside in
    variance_at d.group d.graph.streams i.borders.items i.variances.items i.rooms.items c.args.group x c.self.invariant.around (below c) is

variance_from : (c : After-deref) (x : ℤ) → x ≡ get_or c.self.inside.variances.items c.args.group x → pos 0 <ℤ x
variance_from c x is = subst (λ (y : ℤ). pos 0 <ℤ y) (sym (variance_is c x is)) (free_positive (view c.self.inside) c.args.group c.self.invariant.priced (free c))

variance_to : (c : After-deref) (x : ℤ) → x ≡ get_or c.self.inside.variances.items c.args.group x → x <ℤ pos (2 ^ 125)
variance_to c x is = subst (λ (y : ℤ). y <ℤ pos (2 ^ 125)) (sym (variance_is c x is)) (variance_small (view c.self.inside) c.args.group c.self.invariant.priced)

variance_fits : (c : After-deref) (x : ℤ) → x ≡ get_or c.self.inside.variances.items c.args.group x → FitsSigned w128 x
variance_fits c x is = omega (arith, ints, variance_from c x is, variance_to c x is)

net_small : (c : After-deref) (n : ℤ) → unsigned_abs n ≤ length c.as_slice-border.result.now * most_dual_flow → unsigned_abs n < 2 ^ 125
net_small c n within = let le = few c in omega (arith, within, le)

pub peak-nearest-requires-clause-price : goal.peak-nearest-requires-clause-price
peak-nearest-requires-clause-price c =
    let small = own_small (goal.at.peak-nearest-requires-clause-price c).After-deref in
    let fits : FitsSigned w128 c.index-2.result.now = omega (arith, ints, small) in
    simp to_z-of_z small

pub peak-nearest-requires-clause-net : goal.peak-nearest-requires-clause-net
peak-nearest-requires-clause-net c =
    let small = net_small (goal.at.peak-nearest-requires-clause-net c).After-deref c.net_flow.result c.net_flow.ensures.within in
    let fits : FitsSigned w128 c.net_flow.result = omega (arith, ints, small) in
    simp to_z-of_z small

pub peak-nearest-requires-clause-positive : goal.peak-nearest-requires-clause-positive
peak-nearest-requires-clause-positive c =
    let front = (goal.at.peak-nearest-requires-clause-positive c).After-deref in
    let fits : FitsSigned w128 c.index-3.result.now = variance_fits front c.index-3.result.now c.index-3.ensures in
    simp to_z-of_z (variance_from front c.index-3.result.now c.index-3.ensures)

pub peak-nearest-requires-clause-variance : goal.peak-nearest-requires-clause-variance
peak-nearest-requires-clause-variance c =
    let front = (goal.at.peak-nearest-requires-clause-variance c).After-deref in
    let fits : FitsSigned w128 c.index-3.result.now = variance_fits front c.index-3.result.now c.index-3.ensures in
    simp to_z-of_z (variance_to front c.index-3.result.now c.index-3.ensures)

pub into_box-requires-clause-price : goal.into_box-requires-clause-price
into_box-requires-clause-price c =
    let fits : FitsSigned w128 c.peak-nearest.result = record { sfits = c.peak-nearest.type_inv } in
    simp to_z-of_z c.peak-nearest.ensures.within

pub into_box-requires-clause-border : goal.into_box-requires-clause-border
into_box-requires-clause-border c =
    let front = (goal.at.into_box-requires-clause-border c).After-deref in
    subst (λ (prices : List ℤ). AreBorder prices c.args.group c.as_slice-border.result.now) (sym c.deref-2.ensures.value)
    (subst (λ (b : List BorderStream). AreBorder (view c.self.inside).prices c.args.group b) (sym (border_is front)) (are_border (view c.self.inside) c.args.group c.self.invariant.priced))

pub into_box-requires-clause-room : goal.into_box-requires-clause-room
into_box-requires-clause-room c =
    let front = (goal.at.into_box-requires-clause-room c).After-deref in
    let d = view c.self.inside in
    let i = c.self.inside in
    let x = c.index-4.result.now in
    let is = room_at d.group d.graph.streams i.borders.items i.variances.items i.rooms.items c.args.group x c.self.invariant.around (below front) c.index-4.ensures in
    let size : unsigned_abs x ≤ 2 ^ 112 = subst (λ (y : ℤ). unsigned_abs y ≤ 2 ^ 112) (sym is) (room_size d.prices c.args.group (border_of d.group c.args.group d.graph.streams) (are_border d c.args.group c.self.invariant.priced)) in
    let fits : FitsSigned w128 x = omega (arith, ints, size) in
    simp to_z-of_z (is ∙ ap (border_room (pos (2 ^ 112))) (sym (border_is front)))

pub returns : goal.returns
returns c =
    let front = (goal.at.returns c).After-deref in
    let d = view c.self.inside in
    let k = c.args.group in
    let h = c.self.invariant in
    let small = own_small front in
    let net = net_small front c.net_flow.result c.net_flow.ensures.within in
    let fits_own : FitsSigned w128 c.index-2.result.now = omega (arith, ints, small) in
    let fits_net : FitsSigned w128 c.net_flow.result = omega (arith, ints, net) in
    let fits_variance : FitsSigned w128 c.index-3.result.now = variance_fits front c.index-3.result.now c.index-3.ensures in
    let fits_nearest : FitsSigned w128 c.peak-nearest.result = record { sfits = c.peak-nearest.type_inv } in
    let fits : FitsSigned w128 c.into_box.result = record { sfits = c.into_box.type_inv } in
    let nearest = simp to_z-of_z at c.peak-nearest.ensures.value in
    let is = simp to_z-of_z at c.into_box.ensures in
    let all = subst (λ (p : Priced). IsRise p k c.into_box.result) c.self.view_is
    (by_parts d c.self.inside.flows.items c.deref.result.now c.deref-2.result.now k c.as_slice-border.result.now c.index-2.result.now c.index-3.result.now c.net_flow.result c.peak-nearest.result c.into_box.result
    h.priced h.kept (free front) (border_is front) c.deref.ensures.value c.deref-2.ensures.value (own_is front) (variance_is front c.index-3.result.now c.index-3.ensures) c.net_flow.ensures.value nearest is) in
    simp to_z-of_z (record { value = all.value; within = all.small; fit = all.fit; ascent = all.up })
