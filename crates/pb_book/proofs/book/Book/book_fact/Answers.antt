use Rattle.std.proofs.Common.{◌≡◌, false, refl, sym, Some}
use Rattle.pb_kinds.specs.declared.rows.Effect.TheVariants.{Books}
use Rattle.pb_book.specs.Causes.{first_cause}
use Rattle.pb_book.specs.Kept.{rows_at, shelves_of, told_at}
use Rattle.pb_book.specs.Refusals.{refusal_of}
use Rattle.pb_book.proofs.FactLemmas.{refused_first}
use Rattle.pb_book.proofs.book.Book.book_fact.Goals as goal

pub returns-in-Some-clause-answer : goal.returns-in-Some-clause-answer
returns-in-Some-clause-answer c = λ _.
    let inside = c.self.inside in
    let rows = rows_at (shelves_of inside.site (told_at inside.facts inside.originals) inside.periods inside.edited.items inside.assays) inside.places.items in
    let cause : refusal_of rows (Books c.args.fact.now false) ≡ Some (first_cause c.in-Some.cause inside.facts c.args.fact.now) =
    refused_first rows inside.site inside.facts inside.periods inside.assays c.args.fact.now c.in-Some.cause c.self.invariant.parts c.in-Some.ensures in
    rw (← c.self.view_is, cause, c.first_cause.ensures) refl

pub returns-in-Some-clause-stored : goal.returns-in-Some-clause-stored
returns-in-Some-clause-stored c = λ _.
    let inside = c.self.inside in
    let rows = rows_at (shelves_of inside.site (told_at inside.facts inside.originals) inside.periods inside.edited.items inside.assays) inside.places.items in
    let cause : refusal_of rows (Books c.args.fact.now false) ≡ Some (first_cause c.in-Some.cause inside.facts c.args.fact.now) =
    refused_first rows inside.site inside.facts inside.periods inside.assays c.args.fact.now c.in-Some.cause c.self.invariant.parts c.in-Some.ensures in
    rw (← c.self.view_is, cause) refl

pub book_alone-requires-clause-alone : goal.book_alone-requires-clause-alone
book_alone-requires-clause-alone c =
    let parts = c.self.invariant.parts in
    rw (← c.self.view_is, ← parts.site, ← parts.spans) (sym c.in-None.ensures)
