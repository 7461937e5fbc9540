use Rattle.std.proofs.Common.{◌≡◌, length, take}
use Rattle.pb_graph.specs.Alike.{shapes_of}
use Rattle.pb_graph.proofs.graph.are_of_same_shapes.Given as goal

-- the streams so far have the same shapes
abbrev pub invariant-loop-j : goal.invariant-loop-j
invariant-loop-j l = record {
  so_far : shapes_of (take l.j l.ones) ≡ shapes_of (take l.j l.others);
  each : length l.ones ≡ length l.others;
}
