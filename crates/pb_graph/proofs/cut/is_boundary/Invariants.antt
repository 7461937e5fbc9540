use Rattle.std.proofs.Common.{◌≡◌, ◌≤◌, ◌++◌, length, take, drop}
use Rattle.pb_graph.specs.Boundary.{members_from, boundary_of}
use Rattle.pb_graph.proofs.cut.is_boundary.Given as goal

-- the members so far, joined to those of the streams left, are the boundary
abbrev pub invariant-loop-j : goal.invariant-loop-j
invariant-loop-j l = record {
  so_far : boundary_of l.side l.streams ≡ take l.at l.members ++ members_from l.side l.j (drop l.j l.streams);
  within : l.at ≤ length l.members;
}
