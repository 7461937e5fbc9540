use Rattle.std.proofs.Common.{◌≡◌, ◌++◌, ℕ, List, length}
use Rattle.pb_blocks.specs.Lists.{items}
use Rattle.pb_blocks.specs.Held.{side_of}
use Rattle.pb_blocks.proofs.lists.mark.Given as goal

abbrev pub invariant-loop-item : goal.invariant-loop-item
invariant-loop-item l = (done : List (List ℕ)) × (done ++ l.items ≡ items l.text) × (l.side ≡ side_of l.nodes done)

abbrev pub decreases-loop-item : goal.decreases-loop-item
decreases-loop-item l = length l.items
