use Rattle.std.specs.List.{list_any}
use Rattle.std.proofs.Common.{◌≡◌, ◌∙◌, ap, FitsSigned, arith, length, rules}
use mir.Syntax.{w32}
use Rattle.std.proofs.lemmas.Int.{ints, to_z-of_z}
use Rattle.pb_rows.specs.Name.{same_name}
use Rattle.pb_periods.specs.declared.period.Period.{Period}
use Rattle.pb_periods.proofs.PeriodLemmas.{periods_more, same_periods}
use Rattle.pb_periods.proofs.NameLemmas.{any_map}
use Rattle.pb_periods.proofs.periods.Periods.push.Goals as goal

pub put_name-requires-clause-new : goal.put_name-requires-clause-new
put_name-requires-clause-new c =
    rw c.in_ok-reserve-2.ensures.keys
    (ap (list_any (same_name c.args.period.name)) c.self.invariant.named ∙ any_map (same_name c.args.period.name) (λ (p : Period). p.name) c.self.inside.periods.items
    ∙ rw (← c.self.view_is) at c.requires.name)

pub invariant_of-self-in_err-put_begin : goal.invariant_of-self-in_err-put_begin
invariant_of-self-in_err-put_begin c =
    let inside = c.self.inside in
    rw (c.in_ok-reserve.ensures.items, c.in_ok-reserve-2.ensures.keys)
    (same_periods inside.periods.items inside.names.keys inside.begins inside.closes c.put_begin.new.begins inside.sealed c.self.invariant c.in_err-put_begin.ensures.err)

pub invariant_of-self-2 : goal.invariant_of-self-2
invariant_of-self-2 c =
    let inside = c.self.inside in
    let first : FitsSigned w32 c.args.period.first = omega (arith, ints, c.requires.days.begins.0, c.requires.days.begins.1) in
    let place : c.len-place.result ≡ length inside.periods.items = rw (← c.in_ok-reserve.ensures.items) (search rules) in
    let begun = rw place at (simp to_z-of_z at c.in_ok-put_begin.ensures.ok) in
    let name = rw (← c.self.view_is) at c.requires.name in
    let apart = rw (← c.self.view_is) at c.requires.apart in
    let room = rw (← c.self.view_is) at c.requires.room in
    rw (c.push_reserved.ensures.items, c.put_name.ensures, c.in_ok-reserve.ensures.items, c.in_ok-reserve-2.ensures.keys)
    (periods_more inside.periods.items inside.names.keys inside.begins c.put_begin.new.begins inside.closes inside.sealed c.args.period c.self.invariant c.requires.days c.requires.open name apart room begun)
