use Rattle.std.proofs.Common.{◌∙◌, ◌++◌, ◌∷◌, [], ℕ, List, filter, map, take, ap, sym}
use mir.Syntax.{w32}
use mir.Val.{of_z, to_z}
use Rattle.std.proofs.lemmas.List.{map-append}
use Rattle.pb_site.specs.declared.declared.Arc.{Arc}
use Rattle.pb_site.specs.OnDays.{is_arc_in_service}
use Rattle.pb_site.specs.Site.{arcs_of}
use Rattle.pb_site.proofs.PartLemmas.{served_next, served_same}
use Rattle.pb_site.proofs.on_days.arc_names_on.Goals.{then-is_in_service_within+in_ok-push, else-is_in_service_within}
use Rattle.pb_site.proofs.on_days.arc_names_on.Goals as goal

pub loop-place-preserved : goal.loop-place-preserved
loop-place-preserved c =
    let arcs = arcs_of c.args.site.now in
    let served = is_arc_in_service (to_z w32 (of_z w32 c.args.first)) (to_z w32 (of_z w32 c.args.last)) in
    let place = c.loop-place.place in
    let arc = c.arc-arc.result in
    let name = λ (arc : Arc). arc.name in
    elim c.if-is_in_service_within.branch [
      | then-is_in_service_within+in_ok-push w ↦
          let passes = sym c.is_in_service_within.ensures ∙ w.if-is_in_service_within.true in
          w.names-is ∙ w.in_ok-push.ensures.appended ∙ ap (λ (names : List (List ℕ)). names ++ arc.name ∷ []) c.loop-place.invariant
          ∙ sym (ap (map name) (served_next served arcs place arc c.arc-arc.ensures.value passes) ∙ map-append name (filter served (take place arcs)) (arc ∷ []))
      | else-is_in_service_within w ↦
          let fails = sym c.is_in_service_within.ensures ∙ w.if-is_in_service_within.false in
          w.names-is ∙ c.loop-place.invariant ∙ sym (ap (map name) (served_same served arcs place arc c.arc-arc.ensures.value fails))
    ]
