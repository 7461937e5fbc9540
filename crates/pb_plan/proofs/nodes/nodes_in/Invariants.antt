use Rattle.std.proofs.Common.{◌≡◌, ◌≤◌, ◌+◌, ◌-◌, ◌++◌, length}
use Rattle.std.specs.Prelude.{filter}
use Rattle.std.specs.List.{range_with_len}
use Rattle.pb_plan.specs.Plant.{is_node_in, nodes_in}
use Rattle.pb_plan.proofs.nodes.nodes_in.Given as goal

-- the units and tanks so far that are nodes
abbrev pub invariant-loop-k : goal.invariant-loop-k
invariant-loop-k l =
    record {
      so_far : nodes_in l.plant l.span ≡ l.list.items ++ filter (is_node_in l.plant l.span) (range_with_len (l.k + 1) (l.plant.nodes - l.k));
      few : length l.list.items ≤ l.k;
    }
