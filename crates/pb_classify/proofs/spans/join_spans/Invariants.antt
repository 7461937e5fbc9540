use Rattle.pb_classify.specs.Spans.{AreWholeFrom}
use Rattle.pb_classify.proofs.spans.join_spans.Given as goal

-- the spans from here on are whole
abbrev pub invariant-loop-i : goal.invariant-loop-i
invariant-loop-i l = AreWholeFrom l.graph.streams l.forest.held l.walk l.i l.spans
