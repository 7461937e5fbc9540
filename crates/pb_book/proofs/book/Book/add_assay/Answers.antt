use Rattle.pb_book.specs.Kept.{told_at}
use Rattle.pb_book.proofs.KeptLemmas.{kept_assay}
use Rattle.pb_book.proofs.book.Book.add_assay.Goals as goal

pub invariant_of-self-2 : goal.invariant_of-self-2
invariant_of-self-2 c =
    let inside = c.self.inside in
    let fine = rw (← c.self.view_is) at c.requires in
    rw (c.push_reserved.ensures.items, c.in_ok-reserve.ensures.items, c.in_ok-push.ensures.ok)
    (kept_assay inside.site (told_at inside.facts inside.originals) inside.periods inside.edited.items inside.assays inside.facts inside.places.items inside.edits.items c.args.at c.len.result c.args.assay.now c.self.invariant fine
    c.len.ensures.value).right

pub returns-clause-ok : goal.returns-clause-ok
returns-clause-ok c =
    let inside = c.self.inside in
    let fine = rw (← c.self.view_is) at c.requires in
    rw (c.push_reserved.ensures.items, c.in_ok-reserve.ensures.items, c.in_ok-push.ensures.ok, ← c.self.view_is)
    (kept_assay inside.site (told_at inside.facts inside.originals) inside.periods inside.edited.items inside.assays inside.facts inside.places.items inside.edits.items c.args.at c.len.result c.args.assay.now c.self.invariant fine
    c.len.ensures.value).rows
