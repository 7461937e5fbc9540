use Rattle.std.proofs.Common.{◌≡◌, ◌∙◌, ◌+◌, ◌++◌, pos, List, drop, get_or, ap, arith, length, length-append}
use Rattle.std.specs.List.{enumerate_from, filter_map, flat_map}
use Rattle.std.proofs.lemmas.List.{at_drop_more}
use Rattle.pb_plan.specs.declared.plant.Span.{Span}
use Rattle.pb_plan.specs.declared.window.WindowStream.{WindowStream}
use Rattle.pb_plan.specs.Plant.{NumberedArc}
use Rattle.pb_plan.specs.Window.{flow_of, flows_of_period, window_flows}
use Rattle.pb_plan.proofs.ListLemmas.{grown}
use Rattle.pb_plan.proofs.flows.push_flows.Goals as goal

-- the flows of one more period, at the step `c`
pub loop-t-preserved : goal.loop-t-preserved
loop-t-preserved c =
    let arcs = c.args.arcs.now in
    let nodes = c.args.nodes.now in
    let spans = c.args.spans.now in
    let t = c.loop-t.t in
    let f = flows_of_period arcs nodes in
    let d : Span = record { first = pos 0; last = pos 0 } in
    let made = c.loop-t.streams.items in
    let next = at_drop_more (λ (l : List Span). flat_map f (enumerate_from (t + 1) l)) spans t d c.loop-t-test.true in
    let is = c.in_ok-push_period.ensures ∙ ap (λ (l : List NumberedArc). made ++ filter_map (flow_of nodes (t + 1)) (enumerate_from 0 l)) (c.deref.ensures.value ∙ c.in_ok-list.ensures.value) in
    grown _ made (flat_map f (enumerate_from (t + 1) (drop t spans))) (f (t + 1, get_or spans t d)) (flat_map f (enumerate_from (t + 1 + 1) (drop (t + 1) spans))) _ c.loop-t.invariant next is

pub returns-then-len-gt-MOST_STREAMS-clause-too_many : goal.returns-then-len-gt-MOST_STREAMS-clause-too_many
returns-then-len-gt-MOST_STREAMS-clause-too_many c = λ is.
    let arcs = c.args.arcs.now in
    let nodes = c.args.nodes.now in
    let spans = c.args.spans.now in
    let t = c.loop-t.t in
    let f = flows_of_period arcs nodes in
    let d : Span = record { first = pos 0; last = pos 0 } in
    let made = c.loop-t.streams.items in
    let left = flat_map f (enumerate_from (t + 1 + 1) (drop (t + 1) spans)) in
    let next = at_drop_more (λ (l : List Span). flat_map f (enumerate_from (t + 1) l)) spans t d c.loop-t-test.true in
    let is = c.in_ok-push_period.ensures ∙ ap (λ (l : List NumberedArc). made ++ filter_map (flow_of nodes (t + 1)) (enumerate_from 0 l)) (c.deref.ensures.value ∙ c.in_ok-list.ensures.value) in
    let whole = grown _ made (flat_map f (enumerate_from (t + 1) (drop t spans))) (f (t + 1, get_or spans t d)) left _ c.loop-t.invariant next is in
    omega (arith, ap length whole, length-append c.push_period.new.streams.items left, c.len.ensures, c.if-len-gt-MOST_STREAMS.true)
