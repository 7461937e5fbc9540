use Rattle.std.specs.Prelude.{position, slice_get, int_le}
use Rattle.std.proofs.Common.{◌≡◌, ◌∙◌, ◌++◌, [], ◌∷◌, ℕ, ℤ, pos, ◌+ℤ◌, ◌<ℤ◌, ◌≤ℤ◌, Some, None, List, FitsSigned, arith, sym}
use mir.Syntax.{w32}
use mir.Val.{to_z}
use Rattle.std.proofs.lemmas.Int.{ints, to_z-of_z}
use Rattle.pb_periods.proofs.WindowLemmas.{IsOnWay, begin, gap_smaller, later, stopped, went_on}
use Rattle.pb_periods.proofs.windows.places_between.Goals as goal

pub loop-day-init : goal.loop-day-init
loop-day-init c =
    let first = c.args.first.now in
    let fits : FitsSigned w32 first.first = omega (arith, ints, c.requires.first_days.begins.0, c.requires.first_days.begins.1) in
    rw (to_z-of_z w32 first.first fits, c.new-places.ensures.items) (begin c.args.periods.now first c.args.last.now c.requires.first)

pub loop-day-preserved : goal.loop-day-preserved
loop-day-preserved c =
    let day : ℤ = to_z w32 c.loop-day.day-bits in
    let last = c.args.last.now in
    let fits_last : FitsSigned w32 last.last = omega (arith, ints, c.requires.last_days.ends.0, c.requires.last_days.ends.1) in
    let test = rw (to_z-of_z w32 last.last fits_last) at c.loop-day-test.true in
    let within : day ≤ℤ last.last = omega (arith, ints, test) in
    let found = sym c.begun_on.ensures.value ∙ c.in-Some.is in
    let period = c.at-day.result in
    let ends = c.at-day.ensures.days.ends in
    let fits : FitsSigned w32 period.last = omega (arith, ints, ends.0, ends.1) in
    let next : FitsSigned w32 (period.last +ℤ pos 1) = omega (arith, ints, ends.0, ends.1) in
    rw (to_z-of_z w32 period.last fits, to_z-of_z w32 (period.last +ℤ pos 1) next, c.in_ok-push-in-Some.ensures.items)
    (went_on c.args.periods.now c.args.first.now last day c.loop-day.places.items c.in-Some.place period c.begun_on.ensures.apart c.begun_on.ensures.days c.requires.last within found
    c.at-day.ensures.value c.loop-day.invariant)

pub loop-day-smaller : goal.loop-day-smaller
loop-day-smaller c =
    let day : ℤ = to_z w32 c.loop-day.day-bits in
    let last = c.args.last.now in
    let fits_last : FitsSigned w32 last.last = omega (arith, ints, c.requires.last_days.ends.0, c.requires.last_days.ends.1) in
    let test = rw (to_z-of_z w32 last.last fits_last) at c.loop-day-test.true in
    let found = sym c.begun_on.ensures.value ∙ c.in-Some.is in
    let period = c.at-day.result in
    let ends = c.at-day.ensures.days.ends in
    let fits : FitsSigned w32 period.last = omega (arith, ints, ends.0, ends.1) in
    let next : FitsSigned w32 (period.last +ℤ pos 1) = omega (arith, ints, ends.0, ends.1) in
    let behind = later c.args.periods.now day c.in-Some.place period c.at-day.ensures.days found c.at-day.ensures.value in
    let within : day <ℤ (last.last +ℤ pos 1) = omega (arith, ints, test) in
    rw (to_z-of_z w32 period.last fits, to_z-of_z w32 (period.last +ℤ pos 1) next) (gap_smaller day (period.last +ℤ pos 1) (last.last +ℤ pos 1) within behind)

pub returns-in-None : goal.returns-in-None
returns-in-None c =
    let day : ℤ = to_z w32 c.loop-day.day-bits in
    let last = c.args.last.now in
    let fits_last : FitsSigned w32 last.last = omega (arith, ints, c.requires.last_days.ends.0, c.requires.last_days.ends.1) in
    let test = rw (to_z-of_z w32 last.last fits_last) at c.loop-day-test.true in
    let within : day ≤ℤ last.last = omega (arith, ints, test) in
    let none = sym c.begun_on.ensures.value ∙ c.in-None.is in
    stopped c.args.periods.now c.args.first.now last day c.loop-day.places.items within none c.loop-day.invariant
