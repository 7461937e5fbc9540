use Rattle.std.proofs.Common.{◌≡◌, take}
use Rattle.pb_advise.specs.Choice.{with_meters}
use Rattle.pb_advise.proofs.metered.metered_copy.Given as goal

-- the streams so far are copied
abbrev pub invariant-loop-j : goal.invariant-loop-j
invariant-loop-j l = l.copy ≡ record { nodes = l.graph.nodes; streams = with_meters (take l.j l.chosen) (take l.j l.graph.streams) }
