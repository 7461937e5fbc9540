use Rattle.std.proofs.Common.{◌≡◌, ◌∙◌, List, None, ap, subst, sym}
use Rattle.pb_facts.specs.Facts.{NoRepeats}
use Rattle.pb_kinds.specs.declared.rows.StoredRow.{StoredRow}
use Rattle.pb_book.specs.Accepted.{IsAcceptable}
use Rattle.pb_book.specs.Kept.{rows_at, shelves_of, told_at}
use Rattle.pb_book.specs.Refusals.{refusal_of}
use Rattle.pb_book.specs.Rows.{facts_of, with_row}
use Rattle.pb_book.proofs.PlainLemmas.{unique_more}
use Rattle.pb_book.proofs.book.Book.store.Goals as goal

pub returns-in_ok-add-in-None-clause-no_repeats : goal.returns-in_ok-add-in-None-clause-no_repeats
returns-in_ok-add-in-None-clause-no_repeats c = λ stored.
    let inside = c.self.inside in
    let rows = rows_at (shelves_of inside.site (told_at inside.facts inside.originals) inside.periods inside.edited.items inside.assays) inside.places.items in
    let effect = c.args.effect.now in
    let parts = c.self.invariant.parts in
    let none : refusal_of rows effect ≡ None = rw (← parts.site, ← parts.facts, ← parts.spans, ← parts.assayed) (sym c.in-None.ensures) in
    let may = rw (← c.self.view_is) at c.requires.may in
    let fine : IsAcceptable rows effect = record { no_cause = none; in_range = c.requires.in_range; may = may } in
    subst (λ (rs : List StoredRow). NoRepeats (facts_of rs)) (ap (λ (rs : List StoredRow). with_row rs c.args.at effect) c.self.view_is ∙ sym c.in_ok-add-in-None.ensures.ok)
    (unique_more rows c.args.at effect c.self.invariant.accepted fine)
