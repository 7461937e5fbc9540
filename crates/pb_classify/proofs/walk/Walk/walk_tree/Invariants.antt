use Rattle.std.proofs.Common.{◌+◌, ◌*◌, length}
use Rattle.pb_classify.specs.Walk.{IsWalking, IsNowEntered, unentered}
use Rattle.pb_classify.proofs.walk.Walk.walk_tree.Given as goal

-- the tree is walked, its first node and the nodes entered before are entered
abbrev pub invariant-loop-entry : goal.invariant-loop-entry
invariant-loop-entry l = record {
  walking : IsWalking l.graph.nodes l.graph.streams l.forest.held l.tree (length l.self.list) l.stack.items l.self;
  kept : IsNowEntered l.node l.fn.self l.self;
}

abbrev pub decreases-loop-entry : goal.decreases-loop-entry
decreases-loop-entry l = unentered l.self.entered * (length l.graph.streams + 1) + length l.stack.items
