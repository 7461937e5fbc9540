use Rattle.std.proofs.Common.{rules, ◌<◌, length, arith}
use Rattle.pb_forest.proofs.TreeLemmas.{node_within}
use Rattle.pb_forest.proofs.NetLemmas.{up_within}
use Rattle.pb_forest.proofs.branches.branches_of.Goals as goal

pub branch_up-requires-clause-node : goal.branch_up-requires-clause-node
branch_up-requires-clause-node c =
    let t = c.args.trees.now in
    let place : c.loop-i.i < length t.order = search rules in
    let lt = node_within c.args.graph.now.nodes c.args.graph.now.streams c.args.held.now t c.loop-i.i c.requires.trees.trees place in
    omega (arith, lt, c.requires.trees.trees.ups)

pub branch_up-requires-clause-there : goal.branch_up-requires-clause-there
branch_up-requires-clause-there c = λ k up.
    let lt = up_within c.args.graph.now.nodes c.args.graph.now.streams c.args.held.now c.args.trees.now _ k c.requires.trees up in
    rw c.streams-streams.ensures.value lt
