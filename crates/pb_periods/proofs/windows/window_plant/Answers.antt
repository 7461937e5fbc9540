use Rattle.std.proofs.Common.{◌≡◌, ◌∙◌, subst, sym}
use Rattle.pb_plan.specs.Plant.{IsPlant}
use Rattle.pb_site.specs.Site.{version_of}
use Rattle.pb_periods.specs.Windows.{keeps_idle_nodes, window_plant}
use Rattle.pb_periods.proofs.WindowPlantLemmas.{idle_one, idle_two, plant_is, plant_made, plant_with}
use Rattle.pb_periods.proofs.windows.window_plant.Goals as goal
use Rattle.pb_periods.proofs.windows.window_plant.Goals.{Joined-matches, in-One, in_default}

idle_is : (c : Joined-matches) → c.match-matches.matches ≡ keeps_idle_nodes (version_of c.args.site.now)
idle_is c = elim c.match-matches.branch [
  | in-One w ↦ w.matches-is ∙ idle_one (version_of c.args.site.now) (sym c.version.ensures.value ∙ w.in-One.is)
  | in_default w ↦ w.matches-is ∙ idle_two (version_of c.args.site.now) (λ is. w.in_default.not-One (c.version.ensures.value ∙ is))
]

made : (c : Joined-matches) → plant_with c.nodes.result c.from_vec.result c.match-matches.matches ≡ window_plant c.args.site.now
made c =
    plant_made c.args.site.now c.nodes.result c.from_vec.result c.match-matches.matches c.nodes.ensures.value (c.from_vec.ensures ∙ c.in_ok-window_arcs.ensures) (idle_is c)

pub returns-clause-value : goal.returns-clause-value
returns-clause-value c = made c

pub returns-clause-plant : goal.returns-clause-plant
returns-clause-plant c = subst IsPlant (sym (made c)) (plant_is c.args.site.now c.version.ensures.plant)
