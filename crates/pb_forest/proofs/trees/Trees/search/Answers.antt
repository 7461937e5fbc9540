use Rattle.std.proofs.Common.{rules, ◌≡◌, ◌∙◌, ℕ, ◌<◌, length, ap, sym, arith}
use Rattle.pb_graph.specs.Neighbours.{touching}
use Rattle.pb_graph.proofs.WalkLemmas.{some_same}
use Rattle.pb_forest.specs.Trees.{node_at}
use Rattle.pb_forest.proofs.TreeLemmas.{node_within}
use Rattle.pb_forest.proofs.trees.Trees.search.Goals as goal

-- the nodes of the order are nodes of the graph
pub at-requires : goal.at-requires
at-requires c =
    let t = c.loop-done.self in
    let lt : c.loop-done.done < length t.order = search rules in
    let within = node_within c.args.graph.now.nodes c.args.graph.now.streams c.args.held.now t c.loop-done.done c.loop-done.invariant.growing.trees lt in
    omega (arith, within, c.node_at-node.ensures, c.requires.near.each)

pub visit-requires-clause-list : goal.visit-requires-clause-list
visit-requires-clause-list c =
    let t = c.loop-done.self in
    let ss = c.args.graph.now.streams in
    let lt : c.loop-done.done < length t.order = search rules in
    let within = node_within c.args.graph.now.nodes ss c.args.held.now t c.loop-done.done c.loop-done.invariant.growing.trees lt in
    let is : c.node_at-node.result ≡ node_at t c.loop-done.done = c.node_at-node.ensures in
    c.as_slice.ensures ∙ some_same (sym c.at.ensures ∙ c.requires.near.lists c.node_at-node.result (omega (arith, within, is))) ∙ ap (λ (n : ℕ). touching n ss) is
