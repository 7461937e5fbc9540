use Rattle.std.proofs.Common.{◌≡◌, [], replicate}
use Rattle.pb_graph.proofs.neighbours.empty_lists.Given as goal

-- as many empty lists as turns of the loop
abbrev pub invariant-loop-node : goal.invariant-loop-node
invariant-loop-node l = l.lists.items ≡ replicate l._node []
