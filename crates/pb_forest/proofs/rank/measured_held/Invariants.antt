use Rattle.std.proofs.Common.{◌≡◌, ◌+◌, ◌≤◌, drop}
use Rattle.pb_forest.specs.Forest.{degrees_of_freedom}
use Rattle.pb_forest.proofs.rank.measured_held.Given as goal

-- the count so far and the count of the streams left make the whole
abbrev pub invariant-loop-j : goal.invariant-loop-j
invariant-loop-j l = record {
  so_far : l.count + degrees_of_freedom (drop l.j l.streams) (drop l.j l.held) ≡ degrees_of_freedom l.streams l.held;
  small : l.count ≤ l.j;
}
