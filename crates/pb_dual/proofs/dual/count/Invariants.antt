use Rattle.std.proofs.Common.{◌≡◌, ◌≤◌, max, drop}
use Rattle.pb_graph.specs.Groups.{group_count}
use Rattle.pb_limits.specs.Limits.{most_nodes}
use Rattle.pb_dual.proofs.dual.count.Given as goal

-- the count so far, and the count of the nodes left
abbrev pub invariant-loop-k : goal.invariant-loop-k
invariant-loop-k l = record { so_far : max l.count (group_count (drop l.k-index l.group)) ≡ group_count l.group; small : l.count ≤ most_nodes }
