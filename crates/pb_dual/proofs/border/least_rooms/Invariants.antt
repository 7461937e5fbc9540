use Rattle.std.proofs.Common.{◌≡◌, ◌^◌, pos, map, take}
use Rattle.pb_dual.specs.Border.{border_room}
use Rattle.pb_dual.proofs.border.least_rooms.Given as goal

abbrev pub invariant-loop-border : goal.invariant-loop-border
invariant-loop-border l = l.rooms.items ≡ map (border_room (pos (2 ^ 112))) (take l.border-index l.borders)
