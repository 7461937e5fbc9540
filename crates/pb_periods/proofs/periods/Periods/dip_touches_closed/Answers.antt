use Rattle.std.proofs.Common.{◌+ℤ◌, pos, FitsSigned, arith}
use mir.Syntax.{w32}
use Rattle.std.proofs.lemmas.Int.{ints, to_z-of_z}
use Rattle.pb_periods.proofs.PeriodLemmas.{touches_by_days}
use Rattle.pb_periods.proofs.periods.Periods.dip_touches_closed.Goals as goal

pub returns-else-dip_touches_last : goal.returns-else-dip_touches_last
returns-else-dip_touches_last c =
    let day : FitsSigned w32 c.args.day = c.ranges.day in
    let next : FitsSigned w32 (c.args.day +ℤ pos 1) = omega (arith, ints, c.requires.0, c.requires.1) in
    let one = simp to_z-of_z at c.dip_touches_last.ensures in
    let other = simp to_z-of_z at c.dip_touches_last-else-dip_touches_last.ensures in
    let all =
    touches_by_days c.args.self.now c.args.service c.args.day c.dip_touches_last.result c.dip_touches_last-else-dip_touches_last.result one.days one.only one.each other.only other.each in
    rw c.if-dip_touches_last.false at all
