use Rattle.std.proofs.Common.{◌≡◌, ◌∙◌, ◌+◌, ◌-◌, ◌<◌, ◌++◌, [], ◌∷◌, List, length, ap, sym, refl, arith}
use Rattle.std.specs.List.{filter_map, range_with_len}
use Rattle.pb_plan.specs.declared.window.WindowStream.{WindowStream}
use Rattle.pb_plan.specs.Plant.{NumberedArc}
use Rattle.pb_plan.specs.Window.{content_after}
use Rattle.pb_plan.proofs.ListLemmas.{filter_map_none, filter_map_range_next, filter_map_some, grown, passed}
use Rattle.pb_plan.proofs.contents.push_arc.Goals as goal
use Rattle.pb_plan.proofs.contents.push_arc.Goals.{in-Some+in_ok-push, in_default}

pub loop-period-init : goal.loop-period-init
loop-period-init c =
    let n = length c.args.spans.now + 1 in
    let e : n - 0 ≡ n = omega arith in
    rw e refl

pub loop-period-preserved : goal.loop-period-preserved
loop-period-preserved c =
    let spans = c.args.spans.now in
    let n = length spans + 1 in
    let k = c.loop-period.period in
    let numbered : NumberedArc = (c.args.number, c.args.arc.now) in
    let h = content_after c.args.nodes.now spans numbered in
    let made = c.loop-period.streams.items in
    let lt : k < n = omega (arith, c.loop-period-test.true) in
    let rest = filter_map h (range_with_len k (n - k)) in
    let left = filter_map h (range_with_len (k + 1) (n - (k + 1))) in
    let next = filter_map_range_next h k n k lt in
    elim c.match-content_of.branch [
      | in-Some+in_ok-push w ↦ rw w.streams-is (grown _ made rest (w.in-Some.stream ∷ []) left _ c.loop-period.invariant
          (next ∙ ap (λ (l : List WindowStream). l ++ left) (filter_map_some h k w.in-Some.stream (sym c.content_of.ensures ∙ w.in-Some.is))) w.in_ok-push.ensures.items)
      | in_default w ↦ rw w.streams-is (passed _ made rest left c.loop-period.invariant
          (next ∙ ap (λ (l : List WindowStream). l ++ left) (filter_map_none h k (sym c.content_of.ensures ∙ w.in_default.is))))
    ]
