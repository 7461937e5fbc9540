use Rattle.std.proofs.Common.{length}
use Rattle.pb_graph.specs.Parts.{IsLabelling}
use Rattle.pb_graph.specs.Numbers.{unmeasured_before}
use Rattle.pb_graph.proofs.merge.join_all.Given as goal

-- the labels show what the unmeasured streams so far join
abbrev pub invariant-loop-stream : goal.invariant-loop-stream
invariant-loop-stream l = IsLabelling l.streams (length l.fn.parts) (unmeasured_before l.stream-index) l.parts
