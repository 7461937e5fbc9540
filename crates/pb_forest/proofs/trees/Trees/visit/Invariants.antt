use Rattle.pb_forest.proofs.TreeLemmas.{AreVisited}
use Rattle.pb_forest.proofs.trees.Trees.visit.Given as goal

-- the streams so far were followed
abbrev pub invariant-loop-j : goal.invariant-loop-j
invariant-loop-j l = AreVisited l.graph.nodes l.graph.streams l.held l.place l.list l.j-index l.fn.self l.self
