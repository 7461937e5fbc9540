use Rattle.std.proofs.Common.{◌≡◌, ◌++◌, length, map}
use Rattle.pb_blocks.specs.Lists.{items, step_of}
use Rattle.pb_blocks.proofs.lists.steps_of.Given as goal

abbrev pub invariant-loop-part : goal.invariant-loop-part
invariant-loop-part l = l.steps ++ map (step_of l.streams) l.items ≡ map (step_of l.streams) (items l.text)

abbrev pub decreases-loop-part : goal.decreases-loop-part
decreases-loop-part l = length l.items
