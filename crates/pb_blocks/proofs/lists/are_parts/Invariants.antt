use Rattle.std.proofs.Common.{◌≡◌, length}
use Rattle.std.specs.List.{list_all}
use Rattle.pb_blocks.specs.Lists.{is_part, items}
use Rattle.pb_blocks.proofs.lists.are_parts.Given as goal

abbrev pub invariant-loop : goal.invariant-loop
invariant-loop l = list_all is_part (items l.text) ≡ list_all is_part l.items

abbrev pub decreases-loop : goal.decreases-loop
decreases-loop l = length l.items
