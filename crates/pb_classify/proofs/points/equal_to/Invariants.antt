use Rattle.std.proofs.Common.{◌≡◌, ℕ, ◌<◌, ◌==◌, length, get_or}
use Rattle.pb_graph.specs.Walk.{is_in}
use Rattle.pb_classify.proofs.points.equal_to.Given as goal

-- the nodes so far have their items
abbrev pub invariant-loop-node : goal.invariant-loop-node
invariant-loop-node l = record {
  each : length l.side.items ≡ length l.labels;
  equal : (m : ℕ) → m < l.node → is_in l.side.items m ≡ (get_or l.labels m 0 == l.label);
}
