use Rattle.std.proofs.Common.{◌≡◌, map, take}
use Rattle.pb_dual.specs.Border.{border_variance}
use Rattle.pb_dual.proofs.border.variances.Given as goal

abbrev pub invariant-loop-border : goal.invariant-loop-border
invariant-loop-border l = l.variances.items ≡ map border_variance (take l.border-index l.borders)
