use Rattle.std.proofs.Common.{FitsSigned}
use mir.Syntax.{w32}
use Rattle.std.proofs.lemmas.Int.{to_z-of_z}
use Rattle.pb_periods.proofs.PeriodLemmas.{last_of}
use Rattle.pb_periods.proofs.periods.begun_by.Goals as goal

pub returns-in-Some : goal.returns-in-Some
returns-in-Some c =
    let fits : FitsSigned w32 c.args.day = c.ranges.day in
    let range = simp to_z-of_z at (c.range.ensures.in_range tt) in
    (c.in-Some.field-0-0.now, last_of c.args.begins.now c.args.day c.in-Some.field-0-0.now c.in-Some.place.now c.range.result c.next_back.new.self range c.in-Some.ensures.steps)
