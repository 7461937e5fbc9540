use Rattle.std.proofs.Common.{◌≡◌, ◌∙◌, ◌+◌, ◌<◌, Bool, true, false, List, Vec, Global, length, take, get_or, replicate, ℕ, None, ap, sym, subst, arith}
use Rattle.std.proofs.lemmas.List.{with_items_is}
use Rattle.pb_plan.specs.declared.plant.PlantArc.{PlantArc}
use Rattle.pb_plan.specs.Joined.{AreJoined, MarksEnds}
use Rattle.pb_plan.specs.Plant.{is_served}
use Rattle.pb_plan.proofs.JoinedLemmas.{marked_next, none_joined, passed_next}
use Rattle.pb_plan.proofs.nodes.joined_in.Goals.{then-is_served, else-is_served}
use Rattle.pb_plan.proofs.nodes.joined_in.Goals as goal

pub loop-arc-init : goal.loop-arc-init
loop-arc-init c = none_joined c.args.span.now (c.args.plant.now.nodes + 1) c.in_ok-joined.joined.items (c.in_ok-joined.ensures.items_if_clones_equal (λ y e. e))

pub loop-arc-preserved : goal.loop-arc-preserved
loop-arc-preserved c =
    let arcs = c.args.plant.now.arcs in
    let span = c.args.span.now in
    let nodes = c.args.plant.now.nodes + 1 in
    let i = c.loop-arc.arc-index in
    let d : PlantArc = record { from = 0; to = 0; is_tank = false; service = None } in
    let lt : i < length arcs = rw c.as_slice-arc-items.ensures at c.loop-arc-test.true in
    let served = rw c.as_slice-arc-items.ensures at c.is_served.ensures in
    let items = λ (joined : Vec Bool Global). joined.items in
    elim c.if-is_served.branch [
      | then-is_served w ↦
          let marks = rw (c.as_slice-arc-items.ensures, w.as_mut_slice.ensures.value) at w.mark.ensures in
          let next = marked_next arcs span i nodes d c.loop-arc.joined.items w.mark.new.joined lt (sym served ∙ w.if-is_served.true) c.loop-arc.invariant marks in
          let written = ap items w.joined-is ∙ with_items_is c.loop-arc.joined w.mark.new.joined (w.mark.ensures.each ∙ w.as_mut_slice.ensures.len) in
          subst (λ (joined : List Bool). AreJoined (take (i + 1) arcs) span nodes joined) (sym written) next
      | else-is_served w ↦
          subst (λ (joined : List Bool). AreJoined (take (i + 1) arcs) span nodes joined) (sym (ap items w.joined-is))
          (passed_next arcs span i nodes d c.loop-arc.joined.items lt (sym served ∙ w.if-is_served.false) c.loop-arc.invariant)
    ]
