use Rattle.pb_book.specs.Kept.{told_at}
use Rattle.std.proofs.Common.{FitsSigned}
use mir.Syntax.{w32}
use Rattle.std.proofs.lemmas.Int.{to_z-of_z}
use Rattle.pb_book.proofs.KeptLemmas.{kept_period}
use Rattle.pb_book.proofs.book.Book.add_period.Goals as goal

pub invariant_of-self-2 : goal.invariant_of-self-2
invariant_of-self-2 c =
    let inside = c.self.inside in
    let first : FitsSigned w32 c.args.first = c.ranges.first in
    let last : FitsSigned w32 c.args.last = c.ranges.last in
    let fine = rw (← c.self.view_is) at c.requires in
    let appended = simp to_z-of_z at c.in_ok-push.ensures.ok in
    rw (c.push_reserved.ensures.items, c.in_ok-reserve.ensures.items, appended)
    (kept_period inside.site (told_at inside.facts inside.originals) inside.periods inside.edited.items inside.assays inside.facts inside.places.items inside.edits.items c.args.at c.len.result c.args.name.now c.args.first c.args.last c.self.invariant fine
    c.len.ensures.value).right

pub returns-clause-ok : goal.returns-clause-ok
returns-clause-ok c =
    let inside = c.self.inside in
    let first : FitsSigned w32 c.args.first = c.ranges.first in
    let last : FitsSigned w32 c.args.last = c.ranges.last in
    let fine = rw (← c.self.view_is) at c.requires in
    let appended = simp to_z-of_z at c.in_ok-push.ensures.ok in
    rw (c.push_reserved.ensures.items, c.in_ok-reserve.ensures.items, appended, ← c.self.view_is)
    (kept_period inside.site (told_at inside.facts inside.originals) inside.periods inside.edited.items inside.assays inside.facts inside.places.items inside.edits.items c.args.at c.len.result c.args.name.now c.args.first c.args.last c.self.invariant fine
    c.len.ensures.value).rows
