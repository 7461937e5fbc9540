use Rattle.std.proofs.Common.{◌≡◌, ℕ, ◌<◌, length}
use Rattle.pb_fixed.specs.Sums.{item}
use Rattle.pb_forest.specs.Balancing.{chord_flow}
use Rattle.pb_forest.proofs.flows.write_chords.Given as goal

-- the flows so far are written
abbrev pub invariant-loop-k : goal.invariant-loop-k
invariant-loop-k l = record {
  room : length l.out ≡ length l.held;
  so_far : (k : ℕ) → k < l.k → item l.out k ≡ chord_flow l.held l.off k;
}
