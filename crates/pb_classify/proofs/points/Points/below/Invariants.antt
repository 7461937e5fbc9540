use Rattle.std.proofs.Common.{◌≡◌, ◌↔◌, ℕ, ◌<◌, ◌≤◌, true, length}
use Rattle.pb_graph.specs.Walk.{is_in}
use Rattle.pb_classify.specs.Tables.{points_of}
use Rattle.pb_classify.proofs.points.Points.below.Given as goal

-- the nodes so far have their items
abbrev pub invariant-loop-other : goal.invariant-loop-other
invariant-loop-other l = record {
  each : length l.side ≡ l.other;
  below : (m : ℕ) → m < l.other → (is_in l.side m ≡ true) ↔ (((points_of l.self).number l.node ≤ (points_of l.self).number m) × ((points_of l.self).number m ≤ (points_of l.self).last l.node));
}
