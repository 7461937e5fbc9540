use Rattle.std.proofs.Common.{◌∙◌, ◌<◌, ◌≤◌, ◌^◌, ℤ, pos, length, FitsSigned, unsigned_abs, ap, sym, subst, arith}
use mir.Syntax.{w128}
use Rattle.std.proofs.lemmas.Int.{ints}
use Rattle.std.proofs.lemmas.List.{get_or_default}
use Rattle.std.proofs.Math.Facts.{to_z-of_z}
use Rattle.pb_graph.specs.Groups.{group_count}
use Rattle.pb_dual.specs.Priced.{Priced}
use Rattle.pb_dual.proofs.DualLaws.{price_small}
use Rattle.pb_dual.proofs.dual.Dual.price.Goals as goal

pub returns-clause-within : goal.returns-clause-within
returns-clause-within c =
    let d : Priced = record { graph = c.self.inside.graph.now; group = c.self.inside.group.items; prices = c.self.inside.prices.items } in
    let h = c.self.invariant.priced in
    let k = c.args.group in
    let x : ℤ = c.index.result.now in
    let lt : k < length d.prices = omega (arith, c.requires, h.each, ap (λ (p : Priced). group_count p.group) c.self.view_is) in
    let small : unsigned_abs x ≤ 2 ^ 120 = subst (λ (p : ℤ). unsigned_abs p ≤ 2 ^ 120) (sym (c.index.ensures ∙ get_or_default d.prices k x (pos 0) lt)) (price_small d k h lt) in
    let fits : FitsSigned w128 x = omega (arith, ints, small) in
    simp to_z-of_z small
