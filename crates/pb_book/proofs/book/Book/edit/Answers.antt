use Rattle.std.proofs.Common.{◌≡◌, ◌∙◌, ◌≤◌, List, Some, ap, length, slice_get, subst, sym}
use Rattle.std.proofs.lemmas.Option.{slice_get-get_or}
use Rattle.pb_book.specs.declared.rows.Place.{Place}
use Rattle.pb_book.specs.Kept.{shelves_of, told_at}
use Rattle.pb_book.proofs.EditLemmas.{edit_row, no_edit}
use Rattle.pb_book.proofs.book.Book.edit.Goals as goal

pub returns-in-Some : goal.returns-in-Some
returns-in-Some c =
    let inside = c.self.inside in
    let shelves = shelves_of inside.site (told_at inside.facts inside.originals) inside.periods inside.edited.items inside.assays in
    let found = c.in-Some.ensures.lookup in
    let here = subst (λ (xs : List Place). slice_get xs c.args.i ≡ Some c.in-Some.place.now) c.deref.ensures.value
    (slice_get-get_or c.deref.result.now c.args.i c.in-Some.place.now found.3.0 ∙ ap Some (sym found.1)) in
    let row = rw (c.declared.ensures.value, c.deref-in-Some.ensures.value) at c.row_at.ensures in
    rw (← c.self.view_is) (row ∙ sym (edit_row shelves inside.facts inside.places.items inside.edits.items c.args.i c.in-Some.place.now c.self.invariant here))

pub returns-in-None : goal.returns-in-None
returns-in-None c =
    let inside = c.self.inside in
    let shelves = shelves_of inside.site (told_at inside.facts inside.originals) inside.periods inside.edited.items inside.assays in
    let past = subst (λ (xs : List Place). length xs ≤ c.args.i) c.deref.ensures.value c.in-None.ensures.lookup.3 in
    rw (← c.self.view_is) (no_edit shelves inside.facts inside.places.items inside.edits.items c.args.i c.self.invariant past)
