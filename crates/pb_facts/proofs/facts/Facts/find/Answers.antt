use Rattle.std.proofs.Common.{◌∙◌, sym}
use Rattle.pb_facts.proofs.PlaceLemmas.{live_place, no_fact, no_place, struck_place}
use Rattle.pb_facts.proofs.facts.Facts.find.Goals as goal

pub returns-in_err-place-clause-value : goal.returns-in_err-place-clause-value
returns-in_err-place-clause-value c =
    rw (← c.self.view_is) (c.from_residual.ensures ∙ sym (no_place c.args.id.now c.self.inside.shelf.facts (sym c.in_err-place.ensures.value)))

pub returns-then-is_struck-clause-value : goal.returns-then-is_struck-clause-value
returns-then-is_struck-clause-value c =
    let struck = sym (c.is_struck.ensures no_fact) ∙ c.if-is_struck.true in
    rw (← c.self.view_is) (sym (struck_place c.args.id.now c.self.inside.shelf.facts c.in_ok-place.place no_fact c.self.invariant.no_repeats (sym c.in_ok-place.ensures.value) struck))

pub returns-else-is_struck-clause-value : goal.returns-else-is_struck-clause-value
returns-else-is_struck-clause-value c =
    let live = sym (c.is_struck.ensures no_fact) ∙ c.if-is_struck.false in
    rw (← c.self.view_is) (sym (live_place c.args.id.now c.self.inside.shelf.facts c.in_ok-place.place no_fact (sym c.in_ok-place.ensures.value) live))
