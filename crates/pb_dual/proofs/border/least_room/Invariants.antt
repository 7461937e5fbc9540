use Rattle.std.proofs.Common.{◌≡◌, ◌^◌, pos, drop}
use Rattle.pb_dual.specs.Border.{border_room}
use Rattle.pb_dual.proofs.border.least_room.Given as goal

abbrev pub invariant-loop-stream : goal.invariant-loop-stream
invariant-loop-stream l = border_room l.least (drop l.stream-index l.border) ≡ border_room (pos (2 ^ 112)) l.border
