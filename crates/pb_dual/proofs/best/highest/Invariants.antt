use Rattle.std.proofs.Common.{◌≡◌, ◌^◌, pos, drop}
use Rattle.pb_dual.specs.Border.{border_high}
use Rattle.pb_dual.proofs.best.highest.Given as goal

abbrev pub invariant-loop-stream : goal.invariant-loop-stream
invariant-loop-stream l = border_high l.prices l.hi (drop l.stream-index l.border) ≡ border_high l.prices (pos (2 ^ 120)) l.border
