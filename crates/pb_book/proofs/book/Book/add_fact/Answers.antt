use Rattle.std.specs.Prelude.{false}
use Rattle.std.proofs.Common.{◌++◌, ◌∷◌, []}
use Rattle.pb_book.specs.Kept.{told_at}
use Rattle.pb_book.specs.Rows.{live}
use Rattle.pb_book.proofs.FactLemmas.{no_fault_of}
use Rattle.pb_book.proofs.KeptLemmas.{kept_fact}
use Rattle.pb_book.proofs.OriginalLemmas.{joins}
use Rattle.pb_book.proofs.book.Book.add_fact.Goals as goal

pub add-requires-clause-no_fault : goal.add-requires-clause-no_fault
add-requires-clause-no_fault c =
    let inside = c.self.inside in
    let fine = rw (← c.self.view_is) at c.requires in
    no_fault_of _ inside.site inside.facts inside.periods inside.assays c.args.fact.now false c.self.invariant.parts fine

pub invariant_of-self-2 : goal.invariant_of-self-2
invariant_of-self-2 c =
    let inside = c.self.inside in
    let fine = rw (← c.self.view_is) at c.requires in
    rw (c.push_reserved.ensures.items, c.in_ok-make_room.ensures.items, c.in_ok-add.ensures.added)
    (kept_fact inside.site (told_at inside.facts inside.originals) (told_at (inside.facts ++ live c.args.fact.now ∷ []) inside.originals) inside.periods inside.edited.items inside.assays inside.facts inside.places.items inside.edits.items c.args.at c.len.result c.args.fact.now false c.self.invariant fine c.len.ensures.value
    (joins inside.facts inside.originals c.args.fact.now c.self.invariant.told)).right

pub returns-clause-ok : goal.returns-clause-ok
returns-clause-ok c =
    let inside = c.self.inside in
    let fine = rw (← c.self.view_is) at c.requires in
    rw (c.push_reserved.ensures.items, c.in_ok-make_room.ensures.items, c.in_ok-add.ensures.added, ← c.self.view_is)
    (kept_fact inside.site (told_at inside.facts inside.originals) (told_at (inside.facts ++ live c.args.fact.now ∷ []) inside.originals) inside.periods inside.edited.items inside.assays inside.facts inside.places.items inside.edits.items c.args.at c.len.result c.args.fact.now false c.self.invariant fine c.len.ensures.value
    (joins inside.facts inside.originals c.args.fact.now c.self.invariant.told)).rows
