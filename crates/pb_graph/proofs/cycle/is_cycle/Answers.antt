use Rattle.std.proofs.Common.{◌≡◌, ◌∙◌, ℕ, sym, subst}
use Rattle.pb_graph.specs.ProcessGraph.{ProcessGraph, IsStream}
use Rattle.pb_graph.specs.Walk.{ends_of, any_stream, Walks}
use Rattle.pb_graph.specs.Cycle.{start_of}
use Rattle.pb_fixed.proofs.Lists.{all_each}
use Rattle.pb_graph.proofs.CycleLemmas.{round_streams, not_there_and_back, walk_few, start_first}
use Rattle.pb_graph.proofs.cycle.is_cycle.Goals as goal

pub returns-then-closes : goal.returns-then-closes
returns-then-closes c =
    let g : ProcessGraph = record { nodes = c.args.nodes; streams = c.args.streams.now } in
    let steps = c.args.steps.now in
    let node = c.begin-node.result in
    let first = start_first g steps c.in-Some.first.now c.in-Some.ensures.value in
    let start : node ≡ start_of g steps = c.begin-node.ensures.value ∙ first.0 in
    let closed = c.closes.ensures.0 c.if-closes.true in (
      (λ t.
          let simple = c.is_simple.ensures.0 t in
          record {
            some = first.1;
            back = subst (λ (n : ℕ). Walks (ends_of any_stream g.streams) n steps n) start closed.1;
            each_stream = round_streams g.nodes g.streams node steps closed.1 simple.0 simple.1;
            each_node = simple.0;
          }),
      (λ is. c.is_simple.ensures.1 (is.each_node, not_there_and_back steps is.each_stream)),
    )

-- a cycle has no more steps than nodes
pub returns-else-closes : goal.returns-else-closes
returns-else-closes c =
    let g : ProcessGraph = record { nodes = c.args.nodes; streams = c.args.streams.now } in
    let steps = c.args.steps.now in
    let node = c.begin-node.result in
    let start : node ≡ start_of g steps = c.begin-node.ensures.value ∙ (start_first g steps c.in-Some.first.now c.in-Some.ensures.value).0 in (
      (λ t. cc (sym t ∙ c.if-closes.false)),
      (λ is.
          let few = walk_few g.nodes g.streams (start_of g steps) (start_of g steps) steps (all_each (IsStream g.nodes) g.streams c.requires.ends) is.back is.each_node in
          c.closes.ensures.1 (few, subst (λ (n : ℕ). Walks (ends_of any_stream g.streams) n steps n) (sym start) is.back)),
    )
