use Rattle.std.proofs.Common.{◌+◌, ◌-◌, length}
use Rattle.pb_forest.specs.Trees.{AreSearched, unfound}
use Rattle.pb_forest.proofs.trees.Trees.search.Given as goal

-- the nodes so far were visited
abbrev pub invariant-loop-done : goal.invariant-loop-done
invariant-loop-done l = AreSearched l.graph.nodes l.graph.streams l.held l.done l.fn.self l.self

abbrev pub decreases-loop-done : goal.decreases-loop-done
decreases-loop-done l = length l.self.order + unfound l.self.root - l.done
