use Rattle.std.proofs.Common.{◌≡◌}
use Rattle.pb_forest.specs.Balancing.{chords_of}
use Rattle.pb_forest.proofs.chords.chords_of.Given as goal

-- the chords so far
abbrev pub invariant-loop-k : goal.invariant-loop-k
invariant-loop-k l = l.chords.items ≡ chords_of l.graph.streams l.held l.trees l.k
