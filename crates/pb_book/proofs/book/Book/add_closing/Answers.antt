use Rattle.std.proofs.Common.{sym}
use Rattle.pb_book.specs.Kept.{told_at}
use Rattle.pb_book.proofs.KeptLemmas.{kept_closing}
use Rattle.pb_book.proofs.book.Book.add_closing.Goals as goal

pub invariant_of-self-2 : goal.invariant_of-self-2
invariant_of-self-2 c =
    let inside = c.self.inside in
    let fine = rw (← c.self.view_is) at c.requires.acceptable in
    let there = sym (rw (← c.self.view_is, ← c.self.invariant.parts.spans) at c.requires.place) in
    rw (c.push_reserved-2.ensures.items, c.push_reserved.ensures.items, c.in_ok-reserve.ensures.items, c.in_ok-reserve-2.ensures.items, c.in_ok-close.ensures.ok)
    (kept_closing inside.site (told_at inside.facts inside.originals) inside.periods inside.edited.items inside.assays inside.facts inside.places.items inside.edits.items c.args.at c.args.place c.args.name.now c.self.invariant fine there).right

pub returns-clause-ok : goal.returns-clause-ok
returns-clause-ok c =
    let inside = c.self.inside in
    let fine = rw (← c.self.view_is) at c.requires.acceptable in
    let there = sym (rw (← c.self.view_is, ← c.self.invariant.parts.spans) at c.requires.place) in
    rw (c.push_reserved-2.ensures.items, c.in_ok-reserve.ensures.items, c.in_ok-close.ensures.ok, ← c.self.view_is)
    (kept_closing inside.site (told_at inside.facts inside.originals) inside.periods inside.edited.items inside.assays inside.facts inside.places.items inside.edits.items c.args.at c.args.place c.args.name.now c.self.invariant fine there).rows
