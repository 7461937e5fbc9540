use Rattle.std.proofs.Common.{◌≡◌, ◌∙◌, ℕ, ◌+◌, ◌≤◌, true, false, get_or, sym, ap, refl, arith}
use Rattle.std.proofs.lemmas.List.{length-set, length-replicate}
use Rattle.pb_limits.specs.Limits.{most_nodes}
use Rattle.pb_graph.specs.declared.records.Step.{Step}
use Rattle.pb_graph.specs.Cycle.{begin_of}
use Rattle.pb_graph.proofs.CycleLemmas.{none_seen, seen_next, once_next, seen_twice}
use Rattle.pb_graph.proofs.cycle.nodes_differ.Goals as goal

abbrev some_step : Step
some_step = record { stream = 0; forward = false }

pub loop-step-init : goal.loop-step-init
loop-step-init c = record { once = refl; seen = λ n le. none_seen (most_nodes + 1) n; room = length-replicate (most_nodes + 1) false }

-- a node that was seen appears twice
pub returns-then-seen-node : goal.returns-then-seen-node
returns-then-seen-node c =
    let nodes = c.args.nodes in
    let ss = c.args.streams.now in
    let steps = c.args.steps.now in
    let i = c.loop-step.step-index in
    let is : c.begin-node.result ≡ begin_of nodes ss (get_or steps i some_step) = c.begin-node.ensures.value in
    let le : begin_of nodes ss (get_or steps i some_step) ≤ nodes = omega (arith, is, c.begin-node.ensures.within) in
    sym (seen_twice nodes ss steps c.loop-step.seen i some_step c.loop-step-test.true le c.loop-step.invariant.seen (ap (λ (n : ℕ). get_or c.loop-step.seen n false) (sym is) ∙ c.if-seen-node.true))

-- one more node is seen
pub loop-step-preserved : goal.loop-step-preserved
loop-step-preserved c =
    let nodes = c.args.nodes in
    let ss = c.args.streams.now in
    let steps = c.args.steps.now in
    let i = c.loop-step.step-index in
    let is : c.begin-node.result ≡ begin_of nodes ss (get_or steps i some_step) = c.begin-node.ensures.value in
    let le : begin_of nodes ss (get_or steps i some_step) ≤ nodes = omega (arith, is, c.begin-node.ensures.within) in
    rw is (record {
      once = once_next nodes ss steps c.loop-step.seen i some_step c.loop-step-test.true le c.loop-step.invariant.seen
          (ap (λ (n : ℕ). get_or c.loop-step.seen n false) (sym is) ∙ c.if-seen-node.false) c.loop-step.invariant.once;
      seen = seen_next nodes ss steps c.loop-step.seen i some_step c.loop-step-test.true (omega (arith, le, c.loop-step.invariant.room, c.requires.few)) c.loop-step.invariant.seen;
      room = length-set c.loop-step.seen (begin_of nodes ss (get_or steps i some_step)) true ∙ c.loop-step.invariant.room;
    })
