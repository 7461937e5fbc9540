use Rattle.std.proofs.Common.{◌≡◌, ◌+◌, length, take}
use Rattle.std.specs.Prelude.{All}
use Rattle.pb_graph.specs.ProcessGraph.{IsWithinLimits}
use Rattle.pb_plan.specs.Graph.{graph_streams}
use Rattle.pb_plan.proofs.graph.window_graph.Given as goal

-- the streams so far, none of which is outside the limits
abbrev pub invariant-loop-j : goal.invariant-loop-j
invariant-loop-j l =
    record {
      nodes : l.graph.nodes ≡ 1 + length l.window.nodes;
      so_far : l.graph.streams ≡ take l.j (graph_streams l.window.streams l.measured);
      within : All IsWithinLimits l.graph.streams;
    }
