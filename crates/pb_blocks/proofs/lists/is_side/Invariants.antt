use Rattle.std.specs.Prelude.{◌&&◌}
use Rattle.std.specs.List.{list_all}
use Rattle.std.proofs.Common.{◌≡◌, length, map}
use Rattle.pb_rows.specs.Name.{is_name}
use Rattle.pb_blocks.specs.Lists.{is_side, items, place_of, rise_from}
use Rattle.pb_blocks.proofs.lists.is_side.Given as goal

abbrev pub invariant-loop-item : goal.invariant-loop-item
invariant-loop-item l =
    is_side l.nodes (items l.text) ≡ (list_all is_name l.items && rise_from l.least (map (place_of l.nodes) l.items))

abbrev pub decreases-loop-item : goal.decreases-loop-item
decreases-loop-item l = length l.items
