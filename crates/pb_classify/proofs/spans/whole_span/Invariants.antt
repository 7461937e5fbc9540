use Rattle.std.proofs.Common.{◌-◌, length}
use Rattle.pb_classify.specs.Spans.{IsDeeper}
use Rattle.pb_classify.proofs.spans.whole_span.Given as goal

-- the entries of the span are deeper
abbrev pub invariant-loop-span : goal.invariant-loop-span
invariant-loop-span l = IsDeeper l.graph.streams l.forest.held l.walk l.i l.span

abbrev pub decreases-loop-span : goal.decreases-loop-span
decreases-loop-span l = length l.walk.list - l.span.last
