use Rattle.std.proofs.Common.{◌≡◌, replicate}
use Rattle.pb_graph.proofs.search.steps.Given as goal

-- as many steps as turns of the loop
abbrev pub invariant-loop-node : goal.invariant-loop-node
invariant-loop-node l = l.steps.items ≡ replicate l._node l.step
