use Rattle.std.proofs.Common.{rules, ◌≡◌, ◌≢◌, ◌<◌, ◌≤◌, sym, arith}
use Rattle.pb_forest.specs.Trees.{place_of}
use Rattle.pb_forest.proofs.ClimbLemmas.{placed_once, climb_forth, climb_back, climb_end}
use Rattle.pb_forest.proofs.climb.meet.Goals as goal

pub step_up-parent-requires-clause-later : goal.step_up-parent-requires-clause-later
step_up-parent-requires-clause-later c =
    let less : place_of c.args.trees.now c.loop-a.b < place_of c.args.trees.now c.loop-a.a = search rules in
    (c.loop-a.b, c.loop-a.invariant.here, c.loop-a.invariant.level, less)

-- one more step from the first end
pub loop-a-preserved-then-place : goal.loop-a-preserved-then-place
loop-a-preserved-then-place c =
    let t = c.args.trees.now in
    let less : place_of t c.loop-a.b < place_of t c.loop-a.a = search rules in
    rw c.in_ok-push.ensures.items (climb_forth c.args.graph.now.nodes c.args.graph.now.streams c.args.held.now t c.args.from c.args.to c.loop-a.a c.loop-a.b c.step_up-parent.result.1
    c.loop-a.forth.items c.loop-a.back.items c.step_up-parent.result.0 c.loop-a.invariant less c.step_up-parent.ensures)

pub step_up-parent-requires-else-place-clause-later : goal.step_up-parent-requires-else-place-clause-later
step_up-parent-requires-else-place-clause-later c =
    let t = c.args.trees.now in
    let ne : c.loop-a.a ≢ c.loop-a.b = search rules in
    let le : place_of t c.loop-a.a ≤ place_of t c.loop-a.b = search rules in
    let apart : place_of t c.loop-a.a ≢ place_of t c.loop-a.b = λ e.
    ne (placed_once c.args.graph.now.nodes c.args.graph.now.streams c.args.held.now t c.loop-a.a c.loop-a.b c.requires.trees c.loop-a.invariant.there c.loop-a.invariant.here e) in
    (c.loop-a.a, c.loop-a.invariant.there, sym c.loop-a.invariant.level, omega (arith, le, apart))

-- one more step toward the second end
pub loop-a-preserved : goal.loop-a-preserved
loop-a-preserved c =
    let t = c.args.trees.now in
    let ne : c.loop-a.a ≢ c.loop-a.b = search rules in
    let le : place_of t c.loop-a.a ≤ place_of t c.loop-a.b = search rules in
    let apart : place_of t c.loop-a.a ≢ place_of t c.loop-a.b = λ e.
    ne (placed_once c.args.graph.now.nodes c.args.graph.now.streams c.args.held.now t c.loop-a.a c.loop-a.b c.requires.trees c.loop-a.invariant.there c.loop-a.invariant.here e) in
    rw c.in_ok-push-2.ensures.items (climb_back c.args.graph.now.nodes c.args.graph.now.streams c.args.held.now t c.args.from c.args.to c.loop-a.a c.loop-a.b c.step_up-parent-else-place.result.1
    c.loop-a.forth.items c.loop-a.back.items c.step_up-parent-else-place.result.0 c.loop-a.invariant (omega (arith, le, apart)) c.step_up-parent-else-place.ensures)

pub returns : goal.returns
returns c =
    let met : c.loop-a.a ≡ c.loop-a.b = search rules in
    climb_end c.args.graph.now.nodes c.args.graph.now.streams c.args.held.now c.args.trees.now c.args.from c.args.to c.loop-a.a c.loop-a.b
    c.loop-a.forth.items c.loop-a.back.items c.loop-a.invariant met
