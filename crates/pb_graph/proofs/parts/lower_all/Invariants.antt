use Rattle.std.proofs.Common.{◌≡◌, ◌++◌, map, take, drop}
use Rattle.pb_graph.specs.Labels.{lowered}
use Rattle.pb_graph.proofs.parts.lower_all.Given as goal

-- the labels so far have been replaced
abbrev pub invariant-loop-label : goal.invariant-loop-label
invariant-loop-label l = l.labels ≡ map (lowered l.high l.low) (take l.label-index l.initial.labels) ++ drop l.label-index l.initial.labels
