use Rattle.std.proofs.Common.{◌≡◌, ◌∙◌, ◌+◌, ◌≤◌, Bool, true, false, List, Vec, Global, filter, length, take, replicate, ℕ, ap, sym, subst, arith}
use Rattle.std.proofs.lemmas.List.{with_items_is}
use mir.Syntax.{w32}
use mir.Val.{of_z, to_z}
use Rattle.pb_limits.specs.Limits.{most_nodes}
use Rattle.pb_site.specs.declared.declared.Arc.{Arc}
use Rattle.pb_site.specs.Kept.{AreEnds, MarksEnds}
use Rattle.pb_site.specs.OnDays.{is_arc_in_service}
use Rattle.pb_site.specs.Site.{arcs_of, node_names}
use Rattle.pb_site.proofs.PartLemmas.{ends_next, no_ends, served_next, served_same}
use Rattle.pb_site.proofs.on_days.ends_on.Goals.{then-is_in_service_within, else-is_in_service_within}
use Rattle.pb_site.proofs.on_days.ends_on.Goals as goal

pub loop-place-init : goal.loop-place-init
loop-place-init c =
    let is = c.in_ok-ends.ensures.items_if_clones_equal (λ y e. e) in
    let few : length (node_names c.args.site.now) ≤ most_nodes = omega (arith, c.nodes.ensures.value, c.nodes.ensures.within) in
    no_ends (length (node_names c.args.site.now)) c.in_ok-ends.ends.items few (is ∙ ap (λ (n : ℕ). replicate n false) c.nodes.ensures.value)

pub loop-place-preserved : goal.loop-place-preserved
loop-place-preserved c =
    let arcs = arcs_of c.args.site.now in
    let nodes = length (node_names c.args.site.now) in
    let served = is_arc_in_service (to_z w32 (of_z w32 c.args.first)) (to_z w32 (of_z w32 c.args.last)) in
    let place = c.loop-place.place in
    let arc = c.arc-arc.result in
    let items = λ (ends : Vec Bool Global). ends.items in
    elim c.if-is_in_service_within.branch [
      | then-is_in_service_within w ↦
          let passes : served arc ≡ true = sym c.is_in_service_within.ensures ∙ w.if-is_in_service_within.true in
          let marks : MarksEnds arc c.loop-place.ends.items w.mark.new.ends = subst (λ (old : List Bool). MarksEnds arc old w.mark.new.ends) w.as_mut_slice.ensures.value w.mark.ensures in
          let next = ends_next nodes (filter served (take place arcs)) arc c.loop-place.ends.items w.mark.new.ends c.loop-place.invariant marks in
          let written = ap items w.ends-is ∙ with_items_is c.loop-place.ends w.mark.new.ends (w.mark.ensures.each ∙ w.as_mut_slice.ensures.len) in
          subst (λ (ends : List Bool). AreEnds nodes (filter served (take (place + 1) arcs)) ends) (sym written)
          (subst (λ (some : List Arc). AreEnds nodes some w.mark.new.ends) (sym (served_next served arcs place arc c.arc-arc.ensures.value passes)) next)
      | else-is_in_service_within w ↦
          let fails : served arc ≡ false = sym c.is_in_service_within.ensures ∙ w.if-is_in_service_within.false in
          subst (λ (ends : List Bool). AreEnds nodes (filter served (take (place + 1) arcs)) ends) (sym (ap items w.ends-is))
          (subst (λ (some : List Arc). AreEnds nodes some c.loop-place.ends.items) (sym (served_same served arcs place arc c.arc-arc.ensures.value fails)) c.loop-place.invariant)
    ]
