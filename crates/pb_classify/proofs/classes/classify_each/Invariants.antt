use Rattle.std.proofs.Common.{◌≡◌, ℕ, ◌<◌, ◌≤◌, Some, None, length, slice_get, get_or}
use Rattle.pb_graph.specs.declared.records.Classified.{Classified}
use Rattle.pb_classify.specs.Chords.{IsFirstBefore}
use Rattle.pb_classify.specs.Classification.{IsClassified}
use Rattle.pb_classify.proofs.classes.classify_each.Given as goal

-- the streams so far are classified, and the others still have their cycles
abbrev pub invariant-loop-j : goal.invariant-loop-j
invariant-loop-j l = record {
  each : length l.classes ≡ l.j;
  right : (j : ℕ) (c : Classified) → slice_get l.classes j ≡ Some c → IsClassified l.graph j c;
  left : (j : ℕ) → l.j ≤ j → j < length l.graph.streams → IsFirstBefore l.graph l.forest.held (length l.graph.streams) j (get_or l.cycles j None);
}
