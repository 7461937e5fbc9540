use Rattle.std.specs.Ordering.{int_eq}
use Rattle.std.proofs.Common.{◌≡◌, ◌∙◌, FitsSigned, ap, false, arith}
use mir.Syntax.{w32}
use Rattle.std.proofs.lemmas.Int.{ints, to_z-of_z}
use Rattle.pb_site.specs.Service.{day_of_opening, last_served}
use Rattle.pb_periods.proofs.PeriodLemmas.{differ_as, same_as}
use Rattle.pb_periods.proofs.touching.is_boundary_of.Goals as goal

pub returns-else-day-closing_day : goal.returns-else-day-closing_day
returns-else-day-closing_day c =
    let day : FitsSigned w32 c.args.day = c.ranges.day in
    let first : FitsSigned w32 c.args.period.now.first = omega (arith, ints, c.requires.begins) in
    let last : FitsSigned w32 c.args.period.now.last = omega (arith, ints, c.requires.ends) in
    let closing : FitsSigned w32 c.closing_day.result = omega (arith, ints, c.closing_day.type_inv) in
    let opening : FitsSigned w32 c.opening_day.result = omega (arith, ints, c.opening_day.type_inv) in
    let closes : c.closing_day.result ≡ last_served c.args.service c.args.period.now.last = simp to_z-of_z at c.closing_day.ensures in
    let opens : c.opening_day.result ≡ day_of_opening c.args.service c.args.period.now.first = simp to_z-of_z at c.opening_day.ensures in
    let other : int_eq c.args.day (last_served c.args.service c.args.period.now.last) ≡ false =
    rw (← closes) (differ_as c.args.day c.closing_day.result c.if-day-closing_day.false) in
    rw other (same_as c.args.day c.opening_day.result day opening ∙ ap (int_eq c.args.day) opens)
