use Rattle.std.specs.Prelude.{All, if◌then◌else◌, map, unwrap_or}
use Rattle.std.specs.HashMap.{get}
use Rattle.std.proofs.Common.{◌≡◌, ◌∙◌, ◌∷◌, ◌++◌, ◌+◌, [], drop, List, ℤ, pos, FitsSigned, ap, arith, subst, sym}
use mir.Syntax.{w64}
use Rattle.std.proofs.lemmas.Int.{ints, to_z-of_z}
use Rattle.std.proofs.lemmas.List.Elements.{All-push}
use Rattle.pb_rows.specs.Name.{same_name}
use Rattle.pb_kinds.specs.Costs.{IsMeterCost}
use Rattle.pb_site.specs.Row.{is_plain_kind}
use Rattle.pb_site.specs.Site.{arcs_of}
use Rattle.pb_book.specs.Costs.{cost_of_arc}
use Rattle.pb_book.proofs.CostLemmas.{kind_in_range, one_arc, said_in_range}
use Rattle.pb_book.proofs.costs.meter_costs.Goals as goal

pub loop-place-preserved : goal.loop-place-preserved
loop-place-preserved c =
    let arc = c.arc.result in
    let arcs = arcs_of c.args.site.now in
    let said = get same_name c.in_ok-by_name.by_name arc.name in
    let cost = c.cost_of_arc.result in
    let is : cost ≡ cost_of_arc c.args.named.now arc = c.cost_of_arc.ensures ∙ ap (λ (z : ℤ). if is_plain_kind arc.kind then z else pos 0) (c.in_ok-by_name.ensures.value arc.name) in
    let within : IsMeterCost cost =
    subst IsMeterCost (sym c.cost_of_arc.ensures) (kind_in_range arc.kind (unwrap_or said (pos 1)) (said_in_range said (c.in_ok-by_name.ensures.within arc.name))) in
    let fits : FitsSigned w64 cost = omega (arith, ints, within.0, within.1) in
    let items : c.push.new.self.items ≡ c.loop-place.costs.items ++ cost ∷ [] = rw (to_z-of_z w64 cost fits) at c.in_ok-push.ensures.items in
    record {
      value = ap (λ (costs : List ℤ). costs ++ map (cost_of_arc c.args.named.now) (drop (c.loop-place.place + 1) arcs)) items
          ∙ one_arc (cost_of_arc c.args.named.now) arcs c.loop-place.place arc c.loop-place.costs.items cost c.arc.ensures.value c.loop-place.invariant.value is;
      within = subst (All IsMeterCost) (sym items) (All-push IsMeterCost c.loop-place.costs.items cost c.loop-place.invariant.within within);
    }
