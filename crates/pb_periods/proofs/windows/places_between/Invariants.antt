use Rattle.std.specs.Prelude.{pos, ◌+ℤ◌}
use Rattle.std.specs.Int.{int_gap}
use Rattle.pb_periods.proofs.WindowLemmas.{IsOnWay}
use Rattle.pb_periods.proofs.windows.places_between.Given as goal

abbrev pub invariant-loop-day : goal.invariant-loop-day
invariant-loop-day l = IsOnWay l.periods l.first l.last l.day l.places.items

abbrev pub decreases-loop-day : goal.decreases-loop-day
decreases-loop-day l = int_gap l.day (l.last.last +ℤ pos 1)
