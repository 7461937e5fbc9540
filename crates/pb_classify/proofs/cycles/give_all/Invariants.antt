use Rattle.pb_classify.specs.Chords.{AreFirstBefore}
use Rattle.pb_classify.proofs.cycles.give_all.Given as goal

-- what is known about the streams so far
abbrev pub invariant-loop-e : goal.invariant-loop-e
invariant-loop-e l = AreFirstBefore l.graph l.forest.held l.e l.cycles
