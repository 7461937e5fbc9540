use Rattle.std.proofs.Common.{◌≡◌, ℕ, ◌<◌, pos, length}
use Rattle.pb_fixed.specs.Sums.{item}
use Rattle.pb_dual.specs.DualValue.{dual_flows_of}
use Rattle.pb_dual.proofs.dual.write_measured.Given as goal

-- the dual flows so far are written
abbrev pub invariant-loop-j : goal.invariant-loop-j
invariant-loop-j l = record {
  room : length l.out ≡ length l.streams;
  value : (k : ℕ) → k < l.j → item l.out k ≡ item (dual_flows_of (λ n. pos 0) l.streams) k;
}
