use Rattle.std.proofs.Common.{◌≡◌}
use Rattle.test_graphs.proofs.graph_of.Given as goal

abbrev pub invariant-loop-s : goal.invariant-loop-s
invariant-loop-s l = l.g.nodes ≡ l.nodes
