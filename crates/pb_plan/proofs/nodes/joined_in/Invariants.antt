use Rattle.std.proofs.Common.{◌+◌, take}
use Rattle.pb_plan.specs.Joined.{AreJoined}
use Rattle.pb_plan.proofs.nodes.joined_in.Given as goal

abbrev pub invariant-loop-arc : goal.invariant-loop-arc
invariant-loop-arc l = AreJoined (take l.arc-index l.plant.arcs) l.span (l.plant.nodes + 1) l.joined.items
