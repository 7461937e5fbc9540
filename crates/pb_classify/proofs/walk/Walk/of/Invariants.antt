use Rattle.std.proofs.Common.{◌≡◌, ℕ, ◌<◌, true, [], length}
use Rattle.pb_classify.specs.Tables.{is_entered}
use Rattle.pb_classify.specs.Walk.{IsWalking}
use Rattle.pb_classify.proofs.walk.Walk.of.Given as goal

-- the trees of the nodes so far are walked
abbrev pub invariant-loop-node : goal.invariant-loop-node
invariant-loop-node l = record {
  walking : IsWalking l.graph.nodes l.graph.streams l.forest.held 0 (length l.walk.list) [] l.walk;
  entered : (n : ℕ) → n < l.node → is_entered l.walk n ≡ true;
}
