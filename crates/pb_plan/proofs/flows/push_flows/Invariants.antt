use Rattle.std.proofs.Common.{◌≡◌, ◌+◌, ◌++◌, drop}
use Rattle.std.specs.List.{enumerate_from, flat_map}
use Rattle.pb_plan.specs.Window.{flows_of_period, window_flows}
use Rattle.pb_plan.proofs.flows.push_flows.Given as goal

-- the flows of the periods so far are at the end
abbrev pub invariant-loop-t : goal.invariant-loop-t
invariant-loop-t l =
    l.fn.streams.items ++ window_flows l.arcs l.nodes l.spans
    ≡ l.streams.items ++ flat_map (flows_of_period l.arcs l.nodes) (enumerate_from (l.t + 1) (drop l.t l.spans))
