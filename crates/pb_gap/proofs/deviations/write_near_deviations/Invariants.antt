use Rattle.std.proofs.Common.{◌≡◌, ℕ, ℤ, pos, ◌+ℤ◌, ◌*ℤ◌, ◌≤ℤ◌, ◌<◌, length, take}
use Rattle.pb_fixed.specs.Sums.{item, sum_over}
use Rattle.pb_fixed.specs.Blocks.{IsBlockItem}
use Rattle.pb_dual.specs.DualValue.{dual_flows_of}
use Rattle.pb_gap.specs.Gap.{deviations_of}
use Rattle.pb_gap.proofs.deviations.write_near_deviations.Given as goal

-- the deviations so far are written, and the rest of the limit's square is at least what their squares leave
abbrev pub invariant-loop-j : goal.invariant-loop-j
invariant-loop-j l = record {
  room : length l.out ≡ length l.streams;
  value : (price : ℕ → ℤ) → l.dual_flows ≡ dual_flows_of price l.streams → (k : ℕ) → k < l.j → item l.out k ≡ item (deviations_of price l.streams l.flows) k;
  left : pos 0 ≤ℤ l.left;
  rest : (price : ℕ → ℤ) → l.dual_flows ≡ dual_flows_of price l.streams → (l.limit *ℤ l.limit) ≤ℤ (l.left +ℤ sum_over (λ a. a *ℤ a) (take l.j (deviations_of price l.streams l.flows)));
  within : (k : ℕ) → k < l.j → IsBlockItem (item l.out k);
}
