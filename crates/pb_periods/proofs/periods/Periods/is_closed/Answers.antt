use Rattle.std.specs.Prelude.{position}
use Rattle.std.proofs.Common.{◌≡◌, ◌∙◌, ap, sym, pos, [], Some, None, false, rules}
use Rattle.pb_rows.specs.Name.{same_name}
use Rattle.pb_periods.specs.Apart.{is_named}
use Rattle.pb_periods.specs.declared.period.Period.{Period}
use Rattle.pb_periods.proofs.NameLemmas.{position_map}
use Rattle.pb_periods.proofs.PeriodLemmas.{closed_by_name, none_at_first, none_closed_by_name, position_at_first}
use Rattle.pb_periods.proofs.periods.Periods.is_closed.Goals as goal

pub index-requires : goal.index-requires
index-requires c =
    let periods = c.self.inside.periods.items in
    let is : Some c.in-Some.i ≡ position (is_named c.args.name.now) periods =
    c.in-Some.ensures.index ∙ ap (position (same_name c.args.name.now)) c.self.invariant.named ∙ position_map (same_name c.args.name.now) (λ (p : Period). p.name) periods in
    let d : Period = record { name = []; first = pos 0; last = pos 0; closed = false } in
    let within = (position_at_first (is_named c.args.name.now) periods c.in-Some.i d is).0 in
    search rules

pub returns-in-Some : goal.returns-in-Some
returns-in-Some c =
    let periods = c.self.inside.periods.items in
    let is : Some c.in-Some.i ≡ position (is_named c.args.name.now) periods =
    c.in-Some.ensures.index ∙ ap (position (same_name c.args.name.now)) c.self.invariant.named ∙ position_map (same_name c.args.name.now) (λ (p : Period). p.name) periods in
    rw (← c.self.view_is) (rw c.index.ensures (closed_by_name c.args.name.now periods c.in-Some.i c.index.result.now c.self.invariant.apart is))

pub returns-in-None : goal.returns-in-None
returns-in-None c =
    let periods = c.self.inside.periods.items in
    let is : None ≡ position (is_named c.args.name.now) periods =
    c.in-None.ensures.index ∙ ap (position (same_name c.args.name.now)) c.self.invariant.named ∙ position_map (same_name c.args.name.now) (λ (p : Period). p.name) periods in
    rw (← c.self.view_is) (sym (none_closed_by_name c.args.name.now periods (none_at_first (is_named c.args.name.now) periods is)))
