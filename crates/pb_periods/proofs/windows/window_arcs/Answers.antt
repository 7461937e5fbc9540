use Rattle.std.proofs.Common.{◌∙◌, ◌++◌, [], ◌∷◌, map, ap}
use Rattle.pb_plan.specs.declared.plant.PlantArc.{PlantArc}
use Rattle.pb_site.specs.Site.{arcs_of}
use Rattle.pb_periods.specs.Windows.{window_arc}
use Rattle.pb_periods.proofs.WindowPlantLemmas.{mapped_next}
use Rattle.pb_periods.proofs.windows.window_arcs.Goals as goal

pub loop-place-preserved : goal.loop-place-preserved
loop-place-preserved c =
    let f = window_arc c.version-version.result in
    let arcs = arcs_of c.args.site.now in
    let made = c.loop-place.arcs.items in
    mapped_next f arcs c.loop-place.place c.arc.result made c.push.new.self.items (map f arcs) c.arc.ensures.value c.loop-place.invariant
    (c.in_ok-push.ensures.items ∙ ap (λ (arc : PlantArc). made ++ arc ∷ []) c.window_arc.ensures)
