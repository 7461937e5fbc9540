use Rattle.std.proofs.Common.{rules}
use Rattle.pb_book.specs.Kept.{shelves_of, told_at}
use Rattle.pb_book.proofs.EditLemmas.{placed_length}
use Rattle.pb_book.proofs.book.Book.edits.Goals as goal

pub returns : goal.returns
returns c =
    let inside = c.self.inside in
    let long = placed_length (shelves_of inside.site (told_at inside.facts inside.originals) inside.periods inside.edited.items inside.assays) inside.edits.items c.self.invariant.edited in
    rw (← c.self.view_is, ← c.self.invariant.edit_rows, long) (search rules)
