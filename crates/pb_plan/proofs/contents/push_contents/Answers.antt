use Rattle.std.proofs.Common.{◌+◌, List, drop, get_or, None, false}
use Rattle.std.specs.List.{enumerate_from, flat_map}
use Rattle.std.proofs.lemmas.List.{at_drop_more}
use Rattle.pb_plan.specs.declared.plant.PlantArc.{PlantArc}
use Rattle.pb_plan.specs.Window.{contents_of_arc}
use Rattle.pb_plan.proofs.ListLemmas.{grown}
use Rattle.pb_plan.proofs.contents.push_contents.Goals as goal

pub loop-j-preserved : goal.loop-j-preserved
loop-j-preserved c =
    let arcs = c.args.arcs.now in
    let j = c.loop-j.j in
    let f = contents_of_arc c.args.nodes.now c.args.spans.now in
    let d : PlantArc = record { from = 0; to = 0; is_tank = false; service = None } in
    let made = c.loop-j.streams.items in
    let next = at_drop_more (λ (l : List PlantArc). flat_map f (enumerate_from j l)) arcs j d c.loop-j-test.true in
    grown _ made (flat_map f (enumerate_from j (drop j arcs))) (f (j, get_or arcs j d)) (flat_map f (enumerate_from (j + 1) (drop (j + 1) arcs))) _ c.loop-j.invariant next c.in_ok-push_arc.ensures
