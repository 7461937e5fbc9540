use Rattle.std.proofs.Common.{◌≡◌, ◌++◌, drop}
use Rattle.std.specs.List.{enumerate_from, filter_map}
use Rattle.pb_plan.specs.Window.{flow_of}
use Rattle.pb_plan.proofs.flows.push_period.Given as goal

-- the flows so far are at the end
abbrev pub invariant-loop-place : goal.invariant-loop-place
invariant-loop-place l =
    l.fn.streams.items ++ filter_map (flow_of l.nodes l.period) (enumerate_from 0 l.list)
    ≡ l.streams.items ++ filter_map (flow_of l.nodes l.period) (enumerate_from l.place (drop l.place l.list))
