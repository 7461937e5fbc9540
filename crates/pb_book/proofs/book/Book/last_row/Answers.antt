use Rattle.std.proofs.Common.{sym}
use Rattle.pb_book.specs.Kept.{shelves_of, told_at}
use Rattle.pb_book.proofs.TakenOutLemmas.{no_row_last, row_last}
use Rattle.pb_book.proofs.book.Book.last_row.Goals as goal

pub returns-in-Some : goal.returns-in-Some
returns-in-Some c =
    let inside = c.self.inside in
    let shelves = shelves_of inside.site (told_at inside.facts inside.originals) inside.periods inside.edited.items inside.assays in
    let last = rw c.deref.ensures.value at c.in-Some.ensures.value in
    let row = rw (c.declared.ensures.value, c.deref-in-Some.ensures.value) at c.row_at.ensures in
    rw (← c.self.view_is) (row_last shelves inside.places.items c.in-Some.place.now c.row_at.result c.self.invariant.placed (sym last) row)

pub returns-in-None : goal.returns-in-None
returns-in-None c =
    let inside = c.self.inside in
    let shelves = shelves_of inside.site (told_at inside.facts inside.originals) inside.periods inside.edited.items inside.assays in
    let none = rw c.deref.ensures.value at c.in-None.ensures.value in
    rw (← c.self.view_is) (no_row_last shelves inside.places.items none)
