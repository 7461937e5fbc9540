use Rattle.std.specs.Prelude.{position}
use Rattle.std.proofs.Common.{◌≡◌, ◌∙◌, ap, sym, get_or, Some, None, FitsSigned, arith}
use mir.Syntax.{w32}
use Rattle.std.proofs.lemmas.Int.{ints, to_z-of_z}
use Rattle.pb_rows.specs.Name.{same_name}
use Rattle.pb_periods.specs.Apart.{is_named}
use Rattle.pb_periods.specs.Ranges.{IsPeriod}
use Rattle.pb_periods.specs.declared.period.Period.{Period}
use Rattle.pb_periods.proofs.NameLemmas.{position_map}
use Rattle.pb_periods.proofs.PeriodLemmas.{closed_set, none_at_first, none_closed, periods_closed, position_at_first, same_closings}
use Rattle.pb_periods.proofs.periods.Periods.close.Goals as goal

pub returns-in-None-clause-ok : goal.returns-in-None-clause-ok
returns-in-None-clause-ok c =
    let periods = c.self.inside.periods.items in
    let is : None ≡ position (is_named c.args.name.now) periods =
    c.in-None.ensures.index ∙ ap (position (same_name c.args.name.now)) c.self.invariant.named ∙ position_map (same_name c.args.name.now) (λ (p : Period). p.name) periods in
    rw (← c.self.view_is) (sym (none_closed c.args.name.now periods (none_at_first (is_named c.args.name.now) periods is)))

pub invariant_of-self : goal.invariant_of-self
invariant_of-self c =
    let inside = c.self.inside in
    same_closings inside.periods.items inside.names.keys inside.begins inside.closes c.put_begin.new.begins inside.sealed c.self.invariant c.in_err-put_begin-in-Some.ensures.err

pub invariant_of-self-in-Some : goal.invariant_of-self-in-Some
invariant_of-self-in-Some c =
    let inside = c.self.inside in
    let periods = inside.periods.items in
    let name = c.args.name.now in
    let i = c.in-Some.i in
    let d = c.index_mut.result.now in
    let e = c.index.result.now in
    let is : Some i ≡ position (is_named name) periods =
    c.in-Some.ensures.index ∙ ap (position (same_name name)) c.self.invariant.named ∙ position_map (same_name name) (λ (p : Period). p.name) periods in
    let found = position_at_first (is_named name) periods i d is in
    let found_e = position_at_first (is_named name) periods i e is in
    let here : get_or periods i d ≡ d = sym c.index_mut.ensures.value in
    let here_e : get_or periods i e ≡ e = sym c.index.ensures in
    let days : IsPeriod e = rw here_e at (c.self.invariant.days i e found_e.0) in
    let first : FitsSigned w32 e.first = omega (arith, ints, days.begins.0, days.begins.1) in
    let begun = simp to_z-of_z at c.in_ok-put_begin-in-Some.ensures.ok in
    let set_is = rw here at (closed_set name periods i d c.self.invariant.apart found.0 found.1) in
    rw set_is
    (periods_closed name periods inside.names.keys inside.begins inside.closes c.put_begin.new.begins inside.sealed i e c.self.invariant found_e.0 found_e.1 (rw here_e begun))

pub returns-in_ok-put_begin-in-Some-clause-ok : goal.returns-in_ok-put_begin-in-Some-clause-ok
returns-in_ok-put_begin-in-Some-clause-ok c =
    let periods = c.self.inside.periods.items in
    let name = c.args.name.now in
    let i = c.in-Some.i in
    let d = c.index_mut.result.now in
    let is : Some i ≡ position (is_named name) periods =
    c.in-Some.ensures.index ∙ ap (position (same_name name)) c.self.invariant.named ∙ position_map (same_name name) (λ (p : Period). p.name) periods in
    let found = position_at_first (is_named name) periods i d is in
    let here : get_or periods i d ≡ d = sym c.index_mut.ensures.value in
    rw (← c.self.view_is) (rw here at (closed_set name periods i d c.self.invariant.apart found.0 found.1))
