use Rattle.std.proofs.Common.{◌≡◌, map, take}
use Rattle.pb_classify.specs.Tables.{tree_at}
use Rattle.pb_classify.proofs.walk.Walk.labels.Given as goal

-- the labels of the nodes so far
abbrev pub invariant-loop-number : goal.invariant-loop-number
invariant-loop-number l = l.labels.items ≡ map (tree_at l.self) (take l.number-index l.self.numbers)
