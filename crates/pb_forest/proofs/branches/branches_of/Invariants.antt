use Rattle.std.proofs.Common.{◌≡◌, map, take}
use Rattle.pb_forest.specs.Trees.{up_of}
use Rattle.pb_forest.specs.Balancing.{branch_from}
use Rattle.pb_forest.proofs.branches.branches_of.Given as goal

-- the nodes so far have their branches
abbrev pub invariant-loop-i : goal.invariant-loop-i
invariant-loop-i l = l.branches.items ≡ map (λ n. branch_from l.graph.streams l.trees n (up_of l.trees n)) (take l.i l.trees.order)
