use Rattle.std.proofs.Common.{◌∙◌, ◌+◌, ◌++◌, [], ◌∷◌, List, Bool, drop, get_or, ap, sym, arith, length, length-append, None, false}
use Rattle.std.specs.Prelude.{filter}
use Rattle.std.specs.List.{enumerate_from}
use Rattle.std.proofs.lemmas.List.{at_drop_more}
use Rattle.std.proofs.lemmas.List.Elements.{filter-append}
use Rattle.pb_plan.specs.declared.plant.PlantArc.{PlantArc}
use Rattle.pb_plan.specs.Plant.{NumberedArc, arcs_in, is_served}
use Rattle.pb_plan.proofs.ListLemmas.{filter_no, filter_yes, grown, passed}
use Rattle.pb_plan.proofs.flows.arcs_in.Goals as goal
use Rattle.pb_plan.proofs.flows.arcs_in.Goals.{then-is_served+in_ok-push, else-is_served}

pub loop-j-preserved : goal.loop-j-preserved
loop-j-preserved c =
    let arcs = c.args.arcs.now in
    let span = c.args.span.now in
    let j = c.loop-j.j in
    let d : PlantArc = record { from = 0; to = 0; is_tank = false; service = None } in
    let p : NumberedArc → Bool = λ (numbered : NumberedArc). is_served span numbered.1 in
    let one : NumberedArc = (j, get_or arcs j d) in
    let whole = arcs_in arcs span in
    let made = c.loop-j.list.items in
    let rest = filter p (enumerate_from j (drop j arcs)) in
    let left = filter p (enumerate_from (j + 1) (drop (j + 1) arcs)) in
    let next = at_drop_more (λ (l : List PlantArc). filter p (enumerate_from j l)) arcs j d c.loop-j-test.true ∙ filter-append p (one ∷ []) (enumerate_from (j + 1) (drop (j + 1) arcs)) in
    elim c.if-is_served.branch [
      | then-is_served+in_ok-push w ↦ rw w.list-is (record {
        so_far = grown whole made rest (one ∷ []) left _ c.loop-j.invariant.so_far
            (next ∙ ap (λ (l : List NumberedArc). l ++ left) (filter_yes p one (sym c.is_served.ensures ∙ w.if-is_served.true))) w.in_ok-push.ensures.items;
        few = omega (arith, ap length w.in_ok-push.ensures.items, length-append made (one ∷ []), c.loop-j.invariant.few);
      })
      | else-is_served w ↦ rw w.list-is (record {
        so_far = passed whole made rest left c.loop-j.invariant.so_far
            (next ∙ ap (λ (l : List NumberedArc). l ++ left) (filter_no p one (sym c.is_served.ensures ∙ w.if-is_served.false)));
        few = omega (arith, c.loop-j.invariant.few);
      })
    ]
