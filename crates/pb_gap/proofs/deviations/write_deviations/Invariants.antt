use Rattle.std.proofs.Common.{◌≡◌, ℕ, ℤ, ◌<◌, length}
use Rattle.pb_fixed.specs.Sums.{item}
use Rattle.pb_fixed.specs.Blocks.{IsBlockItem}
use Rattle.pb_dual.specs.DualValue.{dual_flows_of}
use Rattle.pb_gap.specs.Gap.{deviations_of}
use Rattle.pb_gap.proofs.deviations.write_deviations.Given as goal

-- the deviations so far are written
abbrev pub invariant-loop-j : goal.invariant-loop-j
invariant-loop-j l = record {
  room : length l.out ≡ length l.streams;
  value : (price : ℕ → ℤ) → l.dual_flows ≡ dual_flows_of price l.streams → (k : ℕ) → k < l.j → item l.out k ≡ item (deviations_of price l.streams l.flows) k;
  within : (k : ℕ) → k < l.j → IsBlockItem (item l.out k);
}
