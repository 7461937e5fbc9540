use Rattle.std.specs.Prelude.{filter_map, slice_get}
use Rattle.std.proofs.Common.{◌≡◌, ◌∙◌, List, FitsSigned, Option, Some, All, ◌<◌, ℕ, ap, arith, length, subst, sym}
use mir.Syntax.{w32}
use Rattle.std.proofs.lemmas.Int.{ints, to_z-of_z}
use Rattle.std.proofs.lemmas.Result.{IfOk-weaker}
use Rattle.pb_periods.specs.declared.windows.BetweenFault.{BetweenFault}
use Rattle.pb_periods.specs.Windows.{periods_between}
use Rattle.pb_periods.specs.Windows.{fault_between, fault_over}
use Rattle.pb_periods.proofs.WindowPlantLemmas.{between_gap, between_order, between_over, periods_at, within_of}
use Rattle.pb_periods.proofs.windows.judge_window.Goals as goal

pub returns-then-last-first : goal.returns-then-last-first
returns-then-last-first c =
    let first = c.args.first.now in
    let last = c.args.last.now in
    let fits_first : FitsSigned w32 first.first = omega (arith, ints, c.requires.first_days.begins.0, c.requires.first_days.begins.1) in
    let fits_last : FitsSigned w32 last.first = omega (arith, ints, c.requires.last_days.begins.0, c.requires.last_days.begins.1) in
    between_order c.args.site.now c.args.periods.now first last (rw (to_z-of_z w32 last.first fits_last, to_z-of_z w32 first.first fits_first) at c.if-last-first.true)

pub judge_places-requires : goal.judge_places-requires
judge_places-requires c =
    let periods = c.args.periods.now in
    let found = rw c.in-Some.is at c.in_ok-places.ensures in
    subst (All (λ (place : ℕ). place < length periods)) (sym c.deref.ensures.value)
    (within_of periods c.in-Some.places.items (periods_between periods c.args.first.now c.args.last.now) found.they_are)

pub returns-in-Some : goal.returns-in-Some
returns-in-Some c =
    let site = c.args.site.now in
    let periods = c.args.periods.now in
    let first = c.args.first.now in
    let last = c.args.last.now in
    let fits_first : FitsSigned w32 first.first = omega (arith, ints, c.requires.first_days.begins.0, c.requires.first_days.begins.1) in
    let fits_last : FitsSigned w32 last.first = omega (arith, ints, c.requires.last_days.begins.0, c.requires.last_days.begins.1) in
    let after = rw (to_z-of_z w32 last.first fits_last, to_z-of_z w32 first.first fits_first) at c.if-last-first.false in
    let found = rw c.in-Some.is at c.in_ok-places.ensures in
    let these : filter_map (slice_get periods) c.deref.result.now ≡ periods_between periods first last =
    ap (filter_map (slice_get periods)) c.deref.ensures.value ∙ periods_at periods c.in-Some.places.items (periods_between periods first last) found.they_are in
    let same : fault_over site (filter_map (slice_get periods) c.deref.result.now) ≡ fault_between site periods first last =
    ap (fault_over site) these ∙ between_over site periods first last after found.no_gap in
    IfOk-weaker c.judge_places.result (λ (fault : Option BetweenFault). fault ≡ fault_over site (filter_map (slice_get periods) c.deref.result.now))
    (λ (fault : Option BetweenFault). fault ≡ fault_between site periods first last) (λ fault is. is ∙ same) c.judge_places.ensures

pub returns-in-None : goal.returns-in-None
returns-in-None c =
    let first = c.args.first.now in
    let last = c.args.last.now in
    let fits_first : FitsSigned w32 first.first = omega (arith, ints, c.requires.first_days.begins.0, c.requires.first_days.begins.1) in
    let fits_last : FitsSigned w32 last.first = omega (arith, ints, c.requires.last_days.begins.0, c.requires.last_days.begins.1) in
    let after = rw (to_z-of_z w32 last.first fits_last, to_z-of_z w32 first.first fits_first) at c.if-last-first.false in
    let gap = rw c.in-None.is at c.in_ok-places.ensures in
    between_gap c.args.site.now c.args.periods.now first last after gap
