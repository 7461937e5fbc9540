use Rattle.std.proofs.Common.{FitsSigned, sym, arith, rules, true}
use mir.Syntax.{w32}
use Rattle.std.proofs.lemmas.Int.{ints, to_z-of_z}
use Rattle.pb_periods.specs.declared.period.Period.{Period}
use Rattle.pb_periods.proofs.PeriodLemmas.{last_begun, none_begun, period_found, place_found}
use Rattle.pb_periods.proofs.periods.Periods.has_day_within.Goals as goal

pub index-requires : goal.index-requires
index-requires c =
    let last : FitsSigned w32 c.args.last = c.ranges.last in
    let found = simp to_z-of_z at c.in-Some.ensures in
    let within = place_found (λ (p : Period). true) c.self.inside.periods.items c.self.inside.begins c.args.last c.in-Some.place c.self.invariant.all found in
    search rules

pub returns-in-Some : goal.returns-in-Some
returns-in-Some c =
    let inside = c.self.inside in
    let first : FitsSigned w32 c.args.first = c.ranges.first in
    let last : FitsSigned w32 c.args.last = c.ranges.last in
    let found = simp to_z-of_z at c.in-Some.ensures in
    let days = period_found (λ (p : Period). true) inside.periods.items inside.begins c.args.last c.in-Some.place c.index.result.now c.self.invariant.days c.self.invariant.all found (sym c.index.ensures) in
    let own : FitsSigned w32 c.index.result.now.last = omega (arith, ints, days.ends.0, days.ends.1) in
    rw (← c.self.view_is) (simp to_z-of_z
    (last_begun (λ (p : Period). true) inside.periods.items inside.begins c.args.first c.args.last c.in-Some.place c.index.result.now c.self.invariant.days c.self.invariant.apart c.self.invariant.all found
    (sym c.index.ensures)))

pub returns-in-None : goal.returns-in-None
returns-in-None c =
    let last : FitsSigned w32 c.args.last = c.ranges.last in
    let none = simp to_z-of_z at c.in-None.ensures in
    rw (← c.self.view_is) (none_begun (λ (p : Period). true) c.self.inside.periods.items c.self.inside.begins c.args.first c.args.last c.self.invariant.all none)
