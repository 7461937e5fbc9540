-- What crates above may cite of the graphs of periods: what a stored row doesn't change.
use Rattle.std.proofs.Common.{◌++◌, ◌∷◌, []}
use Rattle.pb_strap.proofs.VolumeLemmas.{table_grows}
use Rattle.pb_site.proofs.SiteLaws.{plant_law, same_part_law}
use Rattle.pb_period.specs.Laws.{AgreeingLaw, ClosedGraphsLaw, UntouchedLaw}
use Rattle.pb_period.proofs.ClosedLemmas.{closed_graphs}
use Rattle.pb_period.proofs.OrderLemmas.{agreeing}
use Rattle.pb_period.proofs.PlantLemmas.{plant_of}
use Rattle.pb_period.proofs.UntouchedLemmas.{leaves}

-- a stored row that doesn't take out a period leaves its graph
pub untouched_law : UntouchedLaw
untouched_law rows stored period accepted apart spared =
    let plant = plant_of plant_law (rows ++ stored ∷ []) accepted in
    leaves rows stored period plant.distinct.arcs apart spared

-- a declaration of a session of version 2 leaves the graphs of closed periods
pub closed_graphs_law : ClosedGraphsLaw
closed_graphs_law = closed_graphs plant_law same_part_law table_grows

-- the declarations and the facts that touch a period decide its graph, and their order doesn't
pub agreeing_law : AgreeingLaw
agreeing_law rows other period accepted apart agree =
    let plant = plant_of plant_law rows accepted in
    agreeing rows other period plant.distinct.arcs apart agree
