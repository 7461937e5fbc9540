use Rattle.std.proofs.Common.{◌≡◌, ◌≤◌, ◌+◌, ◌++◌, drop, length}
use Rattle.std.specs.List.{enumerate_from, flat_map}
use Rattle.pb_limits.specs.Limits.{most_units_and_tanks}
use Rattle.pb_plan.specs.Window.{nodes_of_period, window_nodes}
use Rattle.pb_plan.proofs.nodes.window_nodes.Given as goal

-- the nodes of the periods so far
abbrev pub invariant-loop-t : goal.invariant-loop-t
invariant-loop-t l =
    record {
      so_far : window_nodes l.plant l.spans ≡ l.nodes.items ++ flat_map (nodes_of_period l.plant) (enumerate_from (l.t + 1) (drop l.t l.spans));
      few : length l.nodes.items ≤ most_units_and_tanks;
    }
