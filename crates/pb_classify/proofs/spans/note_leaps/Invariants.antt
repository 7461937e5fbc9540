use Rattle.pb_classify.specs.Spans.{AreOwn}
use Rattle.pb_classify.proofs.spans.note_leaps.Given as goal

-- the streams so far count
abbrev pub invariant-loop-j : goal.invariant-loop-j
invariant-loop-j l = AreOwn l.graph.streams l.forest.held l.walk l.j l.spans
