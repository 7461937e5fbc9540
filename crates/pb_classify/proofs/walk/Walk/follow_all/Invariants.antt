use Rattle.std.proofs.Common.{length}
use Rattle.pb_classify.proofs.StackLemmas.{IsFollowing}
use Rattle.pb_classify.proofs.walk.Walk.follow_all.Given as goal

-- the streams so far were followed
abbrev pub invariant-loop-j : goal.invariant-loop-j
invariant-loop-j l = IsFollowing l.graph.nodes l.graph.streams l.forest.held l.self l.i l.list (length l.initial.stack.items) l.j-index l.stack.items
