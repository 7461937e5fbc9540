use Rattle.std.proofs.Common.{◌≡◌, ◌-◌, ◌∷◌, filter}
use Rattle.std.specs.List.{range_with_len}
use Rattle.pb_site.specs.Kept.{is_marked}
use Rattle.pb_site.proofs.on_days.marked.Given as goal

abbrev pub invariant-loop-node : goal.invariant-loop-node
invariant-loop-node l = l.nodes.items ≡ 0 ∷ filter (is_marked l.marks) (range_with_len 1 (l.node - 1))
