use Rattle.std.specs.Prelude.{All}
use Rattle.std.proofs.Common.{◌≡◌, ◌∙◌, FitsSigned, List, subst, sym, rules}
use mir.Syntax.{w32}
use Rattle.std.proofs.lemmas.Int.{to_z-of_z}
use Rattle.pb_periods.specs.Ranges.{IsPeriod}
use Rattle.pb_periods.specs.Touching.{dip_touches}
use Rattle.pb_periods.specs.declared.period.Period.{Period}
use Rattle.pb_periods.proofs.PeriodLemmas.{none_touched_on, period_found, place_found, touched_each, touched_last}
use Rattle.pb_periods.proofs.periods.Periods.dip_touches_last.Goals as goal

pub index-requires : goal.index-requires
index-requires c =
    let by : FitsSigned w32 c.args.by = c.ranges.by in
    let found = simp to_z-of_z at c.in-Some.ensures in
    let within = place_found (λ (p : Period). p.closed) c.self.inside.periods.items c.self.inside.closes c.args.by c.in-Some.place c.self.invariant.closed found in
    search rules

pub dip_touches-requires : goal.dip_touches-requires
dip_touches-requires c =
    let by : FitsSigned w32 c.args.by = c.ranges.by in
    let found = simp to_z-of_z at c.in-Some.ensures in
    period_found (λ (p : Period). p.closed) c.self.inside.periods.items c.self.inside.closes c.args.by c.in-Some.place c.index.result.now c.self.invariant.days c.self.invariant.closed found
    (sym c.index.ensures)

pub returns-in-Some-clause-only : goal.returns-in-Some-clause-only
returns-in-Some-clause-only c = λ is.
    let inside = c.self.inside in
    let day : FitsSigned w32 c.args.day = c.ranges.day in
    let by : FitsSigned w32 c.args.by = c.ranges.by in
    let found = simp to_z-of_z at c.in-Some.ensures in
    let touched : c.dip_touches.result ≡ dip_touches c.args.service c.args.day c.index.result.now = simp to_z-of_z at c.dip_touches.ensures in
    rw (← c.self.view_is)
    (touched_last inside.periods.items inside.closes c.args.service c.args.day c.args.by c.in-Some.place c.index.result.now c.self.invariant.days c.self.invariant.apart c.self.invariant.closed found
    (sym c.index.ensures) (sym touched ∙ is))

pub returns-in-Some-clause-each : goal.returns-in-Some-clause-each
returns-in-Some-clause-each c = λ some.
    let inside = c.self.inside in
    let day : FitsSigned w32 c.args.day = c.ranges.day in
    let by : FitsSigned w32 c.args.by = c.ranges.by in
    let found = simp to_z-of_z at c.in-Some.ensures in
    let touched : c.dip_touches.result ≡ dip_touches c.args.service c.args.day c.index.result.now = simp to_z-of_z at c.dip_touches.ensures in
    touched
    ∙ touched_each inside.periods.items inside.closes c.args.service c.args.day c.args.by c.in-Some.place c.index.result.now c.self.invariant.days c.self.invariant.apart c.self.invariant.closed found
    (sym c.index.ensures) (rw (← c.self.view_is) at some)

pub returns-in-None-clause-each : goal.returns-in-None-clause-each
returns-in-None-clause-each c = λ some.
    let by : FitsSigned w32 c.args.by = c.ranges.by in
    let none = simp to_z-of_z at c.in-None.ensures in
    cc (sym (none_touched_on c.self.inside.periods.items c.self.inside.closes c.args.service c.args.day c.args.by c.self.invariant.closed none) ∙ rw (← c.self.view_is) at some)

pub returns-in-Some-clause-days : goal.returns-in-Some-clause-days
returns-in-Some-clause-days c = subst (λ (ps : List Period). All IsPeriod ps) c.self.view_is c.self.invariant.days
