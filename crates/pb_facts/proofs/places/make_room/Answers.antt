use Rattle.std.proofs.Common.{pos, ◌+ℤ◌, FitsSigned, arith}
use mir.Syntax.{w32}
use Rattle.std.proofs.lemmas.Int.{ints, to_z-of_z}
use Rattle.pb_facts.proofs.places.make_room.Goals as goal

pub returns-clause-here : goal.returns-clause-here
returns-clause-here c =
    let fits : FitsSigned w32 c.args.block = c.ranges.block in
    c.make_room_at-2.ensures.others (c.args.stream, c.args.block) (simp to_z-of_z at c.in_ok-make_room_at.ensures.room)

pub returns-clause-behind : goal.returns-clause-behind
returns-clause-behind c =
    let fits : FitsSigned w32 c.args.block = c.ranges.block in
    let fits_next : FitsSigned w32 (c.args.block +ℤ pos 1) = omega (arith, ints, c.requires, fits) in
    simp to_z-of_z at c.in_ok-make_room_at-2.ensures.room
