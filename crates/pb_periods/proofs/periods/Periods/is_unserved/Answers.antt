use Rattle.std.specs.Prelude.{not, position}
use Rattle.std.proofs.Common.{◌≡◌, ◌∙◌, Some, None, FitsSigned, get_or, ap, arith, sym}
use mir.Syntax.{w32}
use Rattle.std.proofs.lemmas.Int.{ints, to_z-of_z}
use Rattle.pb_rows.specs.Name.{same_name}
use Rattle.pb_site.specs.Service.{is_in_service_within}
use Rattle.pb_periods.specs.Apart.{is_named}
use Rattle.pb_periods.specs.declared.period.Period.{Period}
use Rattle.pb_periods.proofs.ByNameLemmas.{fails_by_name, passes_by_name}
use Rattle.pb_periods.proofs.NameLemmas.{position_map}
use Rattle.pb_periods.proofs.PeriodLemmas.{none_at_first, position_at_first}
use Rattle.pb_periods.proofs.periods.Periods.is_unserved.Goals as goal

pub returns-in-Some : goal.returns-in-Some
returns-in-Some c =
    let periods = c.self.inside.periods.items in
    let is : Some c.in-Some.i ≡ position (is_named c.args.name.now) periods =
    c.in-Some.ensures.index ∙ ap (position (same_name c.args.name.now)) c.self.invariant.named ∙ position_map (same_name c.args.name.now) (λ (p : Period). p.name) periods in
    let d = c.index-period.result.now in
    let days = c.self.invariant.days c.in-Some.i d (position_at_first (is_named c.args.name.now) periods c.in-Some.i d is).0 in
    let first : FitsSigned w32 (get_or periods c.in-Some.i d).first = omega (arith, ints, days.begins.0, days.begins.1) in
    let last : FitsSigned w32 (get_or periods c.in-Some.i d).last = omega (arith, ints, days.ends.0, days.ends.1) in
    let served = simp to_z-of_z at (rw c.index-period.ensures at c.is_in_service_within.ensures) in
    rw (← c.self.view_is)
    (ap not served ∙ passes_by_name (λ (p : Period). not (is_in_service_within c.args.service p.first p.last)) c.args.name.now periods c.in-Some.i d c.self.invariant.apart is)

pub returns-in-None : goal.returns-in-None
returns-in-None c =
    let periods = c.self.inside.periods.items in
    let is : None ≡ position (is_named c.args.name.now) periods =
    c.in-None.ensures.index ∙ ap (position (same_name c.args.name.now)) c.self.invariant.named ∙ position_map (same_name c.args.name.now) (λ (p : Period). p.name) periods in
    rw (← c.self.view_is)
    (sym (fails_by_name (λ (p : Period). not (is_in_service_within c.args.service p.first p.last)) c.args.name.now periods (none_at_first (is_named c.args.name.now) periods is)))
