use Rattle.std.proofs.Common.{◌∙◌, ◌≤◌, Some, ap, length, subst, sym, arith}
use Rattle.std.proofs.lemmas.Bool.{eqb-false}
use Rattle.pb_book.specs.Accepted.{AreAccepted}
use Rattle.pb_book.specs.Kept.{shelves_of, told_at}
use Rattle.pb_book.proofs.EditLemmas.{version_kept}
use Rattle.pb_book.proofs.book.Book.version.Goals as goal

pub returns-else-is_empty-clause-value : goal.returns-else-is_empty-clause-value
returns-else-is_empty-clause-value c =
    let inside = c.self.inside in
    let shelves = shelves_of inside.site (told_at inside.facts inside.originals) inside.periods inside.edited.items inside.assays in
    let there = eqb-false _ 0 (sym c.is_empty.ensures ∙ c.if-is_empty.false) in
    let some : 1 ≤ length inside.places.items = omega (arith, there) in
    rw (← c.self.view_is) (ap Some c.version.ensures.value ∙ version_kept shelves inside.facts inside.places.items inside.edits.items c.self.invariant some)

pub returns-then-is_empty-clause-accepted : goal.returns-then-is_empty-clause-accepted
returns-then-is_empty-clause-accepted c = subst AreAccepted c.self.view_is c.self.invariant.accepted

pub returns-else-is_empty-clause-accepted : goal.returns-else-is_empty-clause-accepted
returns-else-is_empty-clause-accepted c = subst AreAccepted c.self.view_is c.self.invariant.accepted
