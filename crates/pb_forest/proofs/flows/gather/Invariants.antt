use Rattle.std.proofs.Common.{◌≡◌, ℕ, ◌+◌, ◌*◌, ◌≤◌, unsigned_abs, length, take}
use Rattle.pb_fixed.specs.Sums.{item}
use Rattle.pb_forest.specs.Flows.{most_given_flow}
use Rattle.pb_forest.specs.Balancing.{gathered}
use Rattle.pb_forest.proofs.flows.gather.Given as goal

-- the chords so far are brought
abbrev pub invariant-loop-chord : goal.invariant-loop-chord
invariant-loop-chord l = record {
  each : length l.out ≡ length l.fn.out;
  so_far : l.out ≡ gathered (take l.chord-index l.chords) l.off l.fn.out;
  small : (k : ℕ) → unsigned_abs (item l.out k) ≤ (2 * l.chord-index + 1) * most_given_flow;
}
