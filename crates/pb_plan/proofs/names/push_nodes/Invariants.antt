use Rattle.std.proofs.Common.{◌≡◌, ◌++◌, drop, map}
use Rattle.pb_plan.specs.Places.{node_place}
use Rattle.pb_plan.proofs.names.push_nodes.Given as goal

abbrev pub invariant-loop-node : goal.invariant-loop-node
invariant-loop-node l =
    l.fn.places.items ++ map (node_place l.plant l.periods) l.nodes ≡ l.places.items ++ map (node_place l.plant l.periods) (drop l.node-index l.nodes)
