use Rattle.std.proofs.Common.{◌+◌}
use Rattle.pb_forest.specs.Trees.{place_of}
use Rattle.pb_forest.proofs.ClimbLemmas.{IsClimb}
use Rattle.pb_forest.proofs.climb.meet.Given as goal

-- with a path between them, the steps so far make one path from end to end
abbrev pub invariant-loop-a : goal.invariant-loop-a
invariant-loop-a l = IsClimb l.graph.nodes l.graph.streams l.held l.trees l.from l.to l.a l.b l.forth.items l.back.items

abbrev pub decreases-loop-a : goal.decreases-loop-a
decreases-loop-a l = place_of l.trees l.a + place_of l.trees l.b
