use Rattle.pb_forest.specs.Balancing.{AreBalancedFrom}
use Rattle.pb_forest.proofs.flows.settle_all.Given as goal

-- the nodes so far are balanced
abbrev pub invariant-loop-i : goal.invariant-loop-i
invariant-loop-i l = AreBalancedFrom l.graph.streams l.held l.off l.trees l.i l.out
