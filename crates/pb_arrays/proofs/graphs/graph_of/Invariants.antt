use Rattle.std.proofs.Common.{◌≡◌, ◌++◌, drop, length}
use Rattle.std.specs.Prelude.{map}
use Rattle.pb_arrays.specs.Given.{given_stream}
use Rattle.pb_arrays.proofs.graphs.graph_of.Given as goal

-- the first streams are in the graph
abbrev pub invariant-loop-j : goal.invariant-loop-j
invariant-loop-j l = record {
  nodes : l.graph.nodes ≡ l.nodes;
  counted : length l.graph.streams ≡ l.j;
  so_far : map given_stream l.streams ≡ l.graph.streams ++ map given_stream (drop l.j l.streams);
}
