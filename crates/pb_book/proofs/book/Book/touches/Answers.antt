use Rattle.std.proofs.Common.{sym}
use Rattle.pb_book.specs.Kept.{rows_at, shelves_of, told_at}
use Rattle.pb_book.specs.Edits.{edits_of}
use Rattle.pb_book.proofs.EditLemmas.{none_within, touches_by}
use Rattle.pb_book.proofs.book.Book.touches.Goals as goal

pub returns-in-Some : goal.returns-in-Some
returns-in-Some c =
    let inside = c.self.inside in
    let rows = rows_at (shelves_of inside.site (told_at inside.facts inside.originals) inside.periods inside.edited.items inside.assays) inside.places.items in
    let edit = rw (← c.self.view_is) at c.in-Some.ensures in
    rw (← c.self.view_is)
    (touches_by rows inside.site inside.facts inside.periods inside.assays c.args.e c.args.i c.at.result c.in-Some.edit c.edit_touches.result c.self.invariant.parts c.at.ensures.value (sym edit) c.edit_touches.ensures)

pub returns-in-None : goal.returns-in-None
returns-in-None c = absurd (none_within (edits_of c.args.self.now) c.args.e c.requires.edit c.in-None.ensures)
