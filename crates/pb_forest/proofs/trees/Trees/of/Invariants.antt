use Rattle.std.proofs.Common.{◌≡◌, ℕ, ◌<◌, Some, length}
use Rattle.pb_forest.specs.Trees.{AreGrowing, root_of}
use Rattle.pb_forest.proofs.trees.Trees.of.Given as goal

-- the nodes so far are found
abbrev pub invariant-loop-node : goal.invariant-loop-node
invariant-loop-node l = record {
  growing : AreGrowing l.graph.nodes l.graph.streams l.held (length l.trees.order) l.trees;
  so_far : (n : ℕ) → n < l.node → (r : ℕ) × (root_of l.trees n ≡ Some r);
}
