use Rattle.pb_book.specs.Kept.{rows_at, shelves_of, told_at}
use Rattle.pb_book.proofs.TakenOutLemmas.{touched_by, touched_by_none}
use Rattle.pb_book.proofs.book.Book.touched.Goals as goal

pub returns-in-Some : goal.returns-in-Some
returns-in-Some c =
    let inside = c.self.inside in
    let rows = rows_at (shelves_of inside.site (told_at inside.facts inside.originals) inside.periods inside.edited.items inside.assays) inside.places.items in
    let last = rw (← c.self.view_is) at c.in-Some.ensures in
    rw (← c.self.view_is)
    (touched_by rows inside.site inside.facts inside.periods inside.assays c.args.i c.at.result c.in-Some.row c.takes_out.result c.self.invariant.parts c.at.ensures.value last c.takes_out.ensures)

pub returns-in-None : goal.returns-in-None
returns-in-None c = touched_by_none c.args.self.now c.args.i c.in-None.ensures
