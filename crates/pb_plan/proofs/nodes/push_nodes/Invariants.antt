use Rattle.std.proofs.Common.{◌≡◌, ◌+◌, ◌++◌, drop, map}
use Rattle.std.specs.List.{enumerate_from}
use Rattle.pb_plan.specs.Window.{window_node}
use Rattle.pb_plan.proofs.nodes.push_nodes.Given as goal

-- the nodes so far are at the end
abbrev pub invariant-loop-i : goal.invariant-loop-i
invariant-loop-i l =
    l.fn.nodes.items ++ map (window_node l.period) (enumerate_from 1 l.list)
    ≡ l.nodes.items ++ map (window_node l.period) (enumerate_from (l.i + 1) (drop l.i l.list))
