use Rattle.std.proofs.Common.{rules, ◌<◌, length, get_or, None, Some, ℕ, ◌+◌, ◌≤◌, [], ◌∷◌, ◌∙◌, ap, sym, arith, length-append}
use Rattle.std.proofs.lemmas.Option.{slice_get-get_or}
use Rattle.pb_grades.specs.Component.{component_overs}
use Rattle.pb_grades.proofs.ComponentLemmas.{all_made, finished, first_over, one_below, one_more, over_is}
use Rattle.pb_grades.proofs.component.component_graph.Goals as goal

pub returns-in_err-stream-clause-answer : goal.returns-in_err-stream-clause-answer
returns-in_err-stream-clause-answer c =
    let printed = c.args.printed.now in
    let grades = c.args.grades.now in
    let j = c.loop-j.j in
    let in_graph : j < length c.args.graph.now.streams = omega (arith, c.loop-j-test.true, c.len-j-end.ensures.value) in
    let grade = get_or grades j None in
    let r = c.index-printed-j.result in
    let at_r = slice_get-get_or printed j r (omega (arith, in_graph, c.requires.printed)) ∙ ap Some (sym c.index-printed-j.is) in
    let at = slice_get-get_or grades j None (omega (arith, in_graph, c.requires.each)) in
    let over = first_over c.args.graph.now printed grades j r grade (omega (arith, in_graph, c.requires.printed)) (omega (arith, c.requires.each, c.requires.printed))
    at_r at c.loop-j.invariant.within c.in_err-stream.ensures.over in
    search (rules, over)

pub loop-j-preserved : goal.loop-j-preserved
loop-j-preserved c =
    let streams = c.args.graph.now.streams in
    let printed = c.args.printed.now in
    let grades = c.args.grades.now in
    let j = c.loop-j.j in
    let made = c.loop-j.component.streams in
    let stream = c.in_ok-stream.stream in
    let facts = c.in_ok-stream.ensures in
    let in_graph : j < length streams = omega (arith, c.loop-j-test.true, c.len-j-end.ensures.value) in
    let grade = get_or grades j None in
    let r = c.index-printed-j.result in
    let at_r = slice_get-get_or printed j r (omega (arith, in_graph, c.requires.printed)) ∙ ap Some (sym c.index-printed-j.is) in
    let at = slice_get-get_or grades j None (omega (arith, in_graph, c.requires.each)) in
    rw c.in_ok-push.ensures.ok (record {
      nodes = c.loop-j.invariant.nodes;
      counted = length-append made (stream ∷ []) ∙ ap (λ (n : ℕ). n + 1) c.loop-j.invariant.counted;
      so_far = one_more streams printed grades made j r grade stream facts.value at_r at c.loop-j.invariant.so_far;
      within = one_below (component_overs printed grades) j c.loop-j.invariant.within (over_is printed grades j r grade at_r at ∙ facts.within);
    })

pub returns-clause-answer : goal.returns-clause-answer
returns-clause-answer c = λ _.
    let streams = c.args.graph.now.streams in
    let printed = c.args.printed.now in
    let grades = c.args.grades.now in
    let j = c.loop-j.j in
    let past : length streams ≤ j = omega (arith, c.loop-j-test.false, c.len-j-end.ensures.value) in
    finished c.args.graph.now c.loop-j.component printed grades j (omega (arith, past, c.requires.printed)) (omega (arith, c.requires.each, c.requires.printed))
    c.loop-j.invariant.nodes (all_made streams printed grades c.loop-j.component.streams j past c.loop-j.invariant.so_far) c.loop-j.invariant.within
