use Rattle.std.proofs.Common.{◌≡◌, length}
use Rattle.graph_tests.proofs.points.others.Given as goal

-- one mark for each stream so far
abbrev pub invariant-loop-k : goal.invariant-loop-k
invariant-loop-k l = length l.marks.items ≡ l.k
