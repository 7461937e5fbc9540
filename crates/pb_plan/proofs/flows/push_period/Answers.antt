use Rattle.std.proofs.Common.{◌∙◌, ◌+◌, ◌++◌, [], ◌∷◌, ℕ, List, drop, get_or, ap, sym, None, false}
use Rattle.std.specs.List.{enumerate_from, filter_map}
use Rattle.std.proofs.lemmas.List.{at_drop_more}
use Rattle.std.proofs.lemmas.List.Elements.{filter_map-append}
use Rattle.pb_plan.specs.declared.plant.PlantArc.{PlantArc}
use Rattle.pb_plan.specs.declared.window.WindowStream.{WindowStream}
use Rattle.pb_plan.specs.Plant.{NumberedArc}
use Rattle.pb_plan.specs.Window.{flow_of}
use Rattle.pb_plan.proofs.ListLemmas.{filter_map_none, filter_map_some, grown, passed}
use Rattle.pb_plan.proofs.flows.push_period.Goals as goal
use Rattle.pb_plan.proofs.flows.push_period.Goals.{in-Some+in_ok-push, in_default}

pub loop-place-preserved : goal.loop-place-preserved
loop-place-preserved c =
    let list = c.args.list.now in
    let i = c.loop-place.place in
    let h = flow_of c.args.nodes.now c.args.period in
    let no : PlantArc = record { from = 0; to = 0; is_tank = false; service = None } in
    let d : NumberedArc = (0, no) in
    let one : ℕ × NumberedArc = (i, get_or list i d) in
    let made = c.loop-place.streams.items in
    let rest = filter_map h (enumerate_from i (drop i list)) in
    let left = filter_map h (enumerate_from (i + 1) (drop (i + 1) list)) in
    let next = at_drop_more (λ (l : List NumberedArc). filter_map h (enumerate_from i l)) list i d c.loop-place-test.true ∙ filter_map-append h (one ∷ []) (enumerate_from (i + 1) (drop (i + 1) list)) in
    elim c.match-flow_of.branch [
      | in-Some+in_ok-push w ↦ rw w.streams-is (grown _ made rest (w.in-Some.stream ∷ []) left _ c.loop-place.invariant
          (next ∙ ap (λ (l : List WindowStream). l ++ left) (filter_map_some h one w.in-Some.stream (sym c.flow_of.ensures ∙ w.in-Some.is))) w.in_ok-push.ensures.items)
      | in_default w ↦ rw w.streams-is (passed _ made rest left c.loop-place.invariant
          (next ∙ ap (λ (l : List WindowStream). l ++ left) (filter_map_none h one (sym c.flow_of.ensures ∙ w.in_default.is))))
    ]
