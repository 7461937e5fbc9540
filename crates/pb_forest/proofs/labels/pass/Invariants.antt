use Rattle.std.proofs.Common.{◌≡◌, ℕ, ◌<◌, not, false, Some, length, slice_get, get_or}
use Rattle.pb_graph.specs.declared.records.Stream.{Stream}
use Rattle.pb_graph.specs.ProcessGraph.{is_measured}
use Rattle.pb_graph.specs.Parts.{IsLabelling}
use Rattle.pb_forest.specs.Forest.{is_before, IsDecided}
use Rattle.pb_forest.proofs.labels.pass.Given as goal

-- the streams so far are decided, and the labels show what they join
abbrev pub invariant-loop-j : goal.invariant-loop-j
invariant-loop-j l = record {
  labels : IsLabelling l.streams (length l.fn.parts) (is_before l.measured l.j) l.parts;
  marks : (k : ℕ) (s : Stream) → k < l.j → slice_get l.streams k ≡ Some s → is_measured s ≡ l.measured → IsDecided l.streams k (get_or l.held k false);
  others : (k : ℕ) (s : Stream) → slice_get l.streams k ≡ Some s → is_measured s ≡ not l.measured → get_or l.held k false ≡ get_or l.fn.held k false;
}
