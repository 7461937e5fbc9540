use Rattle.std.proofs.Common.{◌≡◌, ◌^◌, pos, neg_ℤ, drop}
use Rattle.pb_dual.specs.Border.{border_low}
use Rattle.pb_dual.proofs.best.lowest.Given as goal

abbrev pub invariant-loop-stream : goal.invariant-loop-stream
invariant-loop-stream l = border_low l.prices l.lo (drop l.stream-index l.border) ≡ border_low l.prices (neg_ℤ (pos (2 ^ 120))) l.border
