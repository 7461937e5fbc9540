use Rattle.std.proofs.Common.{◌≡◌, map, take}
use Rattle.pb_site.specs.OnDays.{name_at_node}
use Rattle.pb_site.proofs.on_days.node_names.Given as goal

abbrev pub invariant-loop-node : goal.invariant-loop-node
invariant-loop-node l = l.names ≡ map (name_at_node l.site) (take l.node-index l.nodes)
