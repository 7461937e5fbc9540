use Rattle.std.proofs.Common.{◌≡◌, ◌++◌, drop}
use Rattle.pb_graph.specs.Boundary.{members_from, boundary_of}
use Rattle.pb_graph.proofs.cut.boundary.Given as goal

-- the members so far and those of the streams left are the boundary
abbrev pub invariant-loop-j : goal.invariant-loop-j
invariant-loop-j l = boundary_of l.side l.streams ≡ l.members ++ members_from l.side l.j (drop l.j l.streams)
