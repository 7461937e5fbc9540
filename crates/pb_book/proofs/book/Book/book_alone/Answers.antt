use Rattle.std.proofs.Common.{◌≡◌, ◌∙◌, ◌++◌, ◌∷◌, [], List, None, Ok, Some, ap, false, refl, subst, sym}
use Rattle.pb_facts.specs.Facts.{NoRepeats}
use Rattle.pb_kinds.specs.declared.rows.Effect.TheVariants.{Books}
use Rattle.pb_kinds.specs.declared.rows.StoredRow.{StoredRow}
use Rattle.pb_book.specs.Accepted.{IsAcceptable}
use Rattle.pb_book.specs.Causes.{fault_cause}
use Rattle.pb_book.specs.Kept.{rows_at, shelves_of, told_at}
use Rattle.pb_book.specs.Refusals.{refusal_of}
use Rattle.pb_book.specs.Rows.{facts_of, live}
use Rattle.pb_book.proofs.FactLemmas.{not_refused, refused_by_fault}
use Rattle.pb_book.proofs.KeptLemmas.{kept_fact}
use Rattle.pb_book.proofs.OriginalLemmas.{joins}
use Rattle.pb_book.proofs.PlainLemmas.{unique_more}
use Rattle.pb_book.proofs.book.Book.book_alone.Goals as goal

pub returns-else-branch-clause-answer : goal.returns-else-branch-clause-answer
returns-else-branch-clause-answer c = λ _.
    let inside = c.self.inside in
    let fact = c.args.fact.now in
    let rows = rows_at (shelves_of inside.site (told_at inside.facts inside.originals) inside.periods inside.edited.items inside.assays) inside.places.items in
    let alone = rw (← c.self.view_is) at c.requires.alone in
    let cause : refusal_of rows (Books fact false) ≡ Some (fault_cause inside.facts fact) =
    refused_by_fault rows inside.site inside.facts inside.periods inside.assays fact c.in_ok-book.field-0 c.self.invariant.parts alone c.in_ok-book.ensures.fault c.if-branch.false in
    rw (← c.self.view_is, cause, c.fault_cause.ensures, c.in_ok-book.ensures.unchanged (λ e. cc (sym (ap Ok c.if-branch.false) ∙ e))) refl

pub returns-else-branch-clause-stored : goal.returns-else-branch-clause-stored
returns-else-branch-clause-stored c = λ _.
    let inside = c.self.inside in
    let fact = c.args.fact.now in
    let rows = rows_at (shelves_of inside.site (told_at inside.facts inside.originals) inside.periods inside.edited.items inside.assays) inside.places.items in
    let alone = rw (← c.self.view_is) at c.requires.alone in
    let cause : refusal_of rows (Books fact false) ≡ Some (fault_cause inside.facts fact) =
    refused_by_fault rows inside.site inside.facts inside.periods inside.assays fact c.in_ok-book.field-0 c.self.invariant.parts alone c.in_ok-book.ensures.fault c.if-branch.false in
    rw (← c.self.view_is, cause, c.in_ok-make_room.ensures.items, c.in_ok-book.ensures.unchanged (λ e. cc (sym (ap Ok c.if-branch.false) ∙ e))) refl

pub invariant_of-self-then-branch : goal.invariant_of-self-then-branch
invariant_of-self-then-branch c =
    let inside = c.self.inside in
    let fact = c.args.fact.now in
    let rows = rows_at (shelves_of inside.site (told_at inside.facts inside.originals) inside.periods inside.edited.items inside.assays) inside.places.items in
    let alone = rw (← c.self.view_is) at c.requires.alone in
    let none : refusal_of rows (Books fact false) ≡ None =
    not_refused rows inside.site inside.facts inside.periods inside.assays fact c.in_ok-book.field-0 c.self.invariant.parts alone c.in_ok-book.ensures.fault c.if-branch.true in
    let fine : IsAcceptable rows (Books fact false) = record { no_cause = none; in_range = c.requires.in_range; may = refl } in
    rw (c.push_reserved.ensures.items, c.in_ok-make_room.ensures.items, c.in_ok-book.ensures.added (ap Ok c.if-branch.true))
    (kept_fact inside.site (told_at inside.facts inside.originals) (told_at (inside.facts ++ live fact ∷ []) inside.originals) inside.periods inside.edited.items inside.assays inside.facts inside.places.items inside.edits.items c.args.at c.len-place.result fact false c.self.invariant fine c.len-place.ensures.value
    (joins inside.facts inside.originals fact c.self.invariant.told)).right

pub returns-then-branch-clause-stored : goal.returns-then-branch-clause-stored
returns-then-branch-clause-stored c = λ _.
    let inside = c.self.inside in
    let fact = c.args.fact.now in
    let rows = rows_at (shelves_of inside.site (told_at inside.facts inside.originals) inside.periods inside.edited.items inside.assays) inside.places.items in
    let alone = rw (← c.self.view_is) at c.requires.alone in
    let none : refusal_of rows (Books fact false) ≡ None =
    not_refused rows inside.site inside.facts inside.periods inside.assays fact c.in_ok-book.field-0 c.self.invariant.parts alone c.in_ok-book.ensures.fault c.if-branch.true in
    let fine : IsAcceptable rows (Books fact false) = record { no_cause = none; in_range = c.requires.in_range; may = refl } in
    rw (c.push_reserved.ensures.items, c.in_ok-make_room.ensures.items, c.in_ok-book.ensures.added (ap Ok c.if-branch.true), ← c.self.view_is, none)
    (kept_fact inside.site (told_at inside.facts inside.originals) (told_at (inside.facts ++ live fact ∷ []) inside.originals) inside.periods inside.edited.items inside.assays inside.facts inside.places.items inside.edits.items c.args.at c.len-place.result fact false c.self.invariant fine c.len-place.ensures.value
    (joins inside.facts inside.originals fact c.self.invariant.told)).rows

pub returns-then-branch-clause-no_repeats : goal.returns-then-branch-clause-no_repeats
returns-then-branch-clause-no_repeats c = λ _.
    let inside = c.self.inside in
    let fact = c.args.fact.now in
    let rows = rows_at (shelves_of inside.site (told_at inside.facts inside.originals) inside.periods inside.edited.items inside.assays) inside.places.items in
    let alone = rw (← c.self.view_is) at c.requires.alone in
    let none : refusal_of rows (Books fact false) ≡ None =
    not_refused rows inside.site inside.facts inside.periods inside.assays fact c.in_ok-book.field-0 c.self.invariant.parts alone c.in_ok-book.ensures.fault c.if-branch.true in
    let fine : IsAcceptable rows (Books fact false) = record { no_cause = none; in_range = c.requires.in_range; may = refl } in
    rw (c.push_reserved.ensures.items, c.in_ok-make_room.ensures.items, c.in_ok-book.ensures.added (ap Ok c.if-branch.true))
    (subst (λ (rs : List StoredRow). NoRepeats (facts_of rs))
    (sym (kept_fact inside.site (told_at inside.facts inside.originals) (told_at (inside.facts ++ live fact ∷ []) inside.originals) inside.periods inside.edited.items inside.assays inside.facts inside.places.items inside.edits.items c.args.at c.len-place.result fact false c.self.invariant fine c.len-place.ensures.value
    (joins inside.facts inside.originals fact c.self.invariant.told)).rows)
    (unique_more rows c.args.at (Books fact false) c.self.invariant.accepted fine))
