use Rattle.std.proofs.Common.{◌≡◌, false, pos, ◌*◌, ◌^◌, ◌≤ℤ◌, take}
use Rattle.std.specs.Prelude.{int_lt}
use Rattle.std.specs.List.{list_any}
use Rattle.pb_gap.specs.Statistic.{adjustment_above, adjustments_by, adjustment_cap, full_squares}
use Rattle.pb_gap.proofs.adjustments.full_squares.Given as goal

abbrev pub invariant-loop-j : goal.invariant-loop-j
invariant-loop-j l = record {
  so_far : l.total ≡ full_squares (take l.j (adjustments_by adjustment_above l.streams l.flows));
  none : list_any (λ b. int_lt adjustment_cap b) (take l.j (adjustments_by adjustment_above l.streams l.flows)) ≡ false;
  nonneg : pos 0 ≤ℤ l.total;
  small : l.total ≤ℤ pos (l.j * 2 ^ 104);
}
