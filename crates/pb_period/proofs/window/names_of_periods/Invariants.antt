use Rattle.std.proofs.Common.{◌≡◌, ◌++◌, drop}
use Rattle.pb_periods.specs.Windows.{names_of_periods}
use Rattle.pb_period.specs.WindowGraph.{periods_at}
use Rattle.pb_period.proofs.window.names_of_periods.Given as goal

abbrev pub invariant-loop-place : goal.invariant-loop-place
invariant-loop-place l = names_of_periods (periods_at l.book l.places) ≡ l.names ++ names_of_periods (periods_at l.book (drop l.place-index l.places))
