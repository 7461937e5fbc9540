use Rattle.std.proofs.Common.{◌≡◌, length}
use Rattle.std.specs.List.{list_any}
use Rattle.pb_blocks.specs.Lists.{items}
use Rattle.pb_blocks.specs.Held.{is_unknown_item}
use Rattle.pb_blocks.proofs.lists.has_unknown_item.Given as goal

abbrev pub invariant-loop-item : goal.invariant-loop-item
invariant-loop-item l = list_any (is_unknown_item l.names) (items l.text) ≡ list_any (is_unknown_item l.names) l.items

abbrev pub decreases-loop-item : goal.decreases-loop-item
decreases-loop-item l = length l.items
