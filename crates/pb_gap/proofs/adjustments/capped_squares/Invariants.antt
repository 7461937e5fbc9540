use Rattle.std.proofs.Common.{◌≡◌, pos, ◌*◌, ◌^◌, ◌≤ℤ◌, take}
use Rattle.pb_gap.specs.Statistic.{adjustment_below, adjustments_by, capped_squares}
use Rattle.pb_gap.proofs.adjustments.capped_squares.Given as goal

abbrev pub invariant-loop-j : goal.invariant-loop-j
invariant-loop-j l = record {
  so_far : l.total ≡ capped_squares (take l.j (adjustments_by adjustment_below l.streams l.flows));
  nonneg : pos 0 ≤ℤ l.total;
  small : l.total ≤ℤ pos (l.j * 2 ^ 104);
}
