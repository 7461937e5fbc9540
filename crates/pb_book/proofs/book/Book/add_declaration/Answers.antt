use Rattle.std.proofs.Common.{◌∙◌}
use Rattle.pb_book.specs.Kept.{told_at}
use Rattle.pb_book.proofs.FactLemmas.{no_site_fault_of}
use Rattle.pb_book.proofs.KeptLemmas.{kept_declaration}
use Rattle.pb_book.proofs.book.Book.add_declaration.Goals as goal

pub add-requires-clause-no_fault : goal.add-requires-clause-no_fault
add-requires-clause-no_fault c =
    let inside = c.self.inside in
    let fine = rw (← c.self.view_is) at c.requires in
    no_site_fault_of _ inside.site inside.facts inside.periods inside.assays c.args.declared.now c.self.invariant.parts fine

pub invariant_of-self-2 : goal.invariant_of-self-2
invariant_of-self-2 c =
    let inside = c.self.inside in
    let fine = rw (← c.self.view_is) at c.requires in
    rw (c.push_reserved.ensures.items, c.in_ok-reserve.ensures.items, c.in_ok-add.ensures.added)
    (kept_declaration inside.site (told_at inside.facts inside.originals) inside.periods inside.edited.items inside.assays inside.facts inside.places.items inside.edits.items c.args.at c.in_ok-short.field-0 c.args.declared.now c.self.invariant fine (c.in_ok-short.ensures ∙ c.len.ensures)).right

pub returns-clause-ok : goal.returns-clause-ok
returns-clause-ok c =
    let inside = c.self.inside in
    let fine = rw (← c.self.view_is) at c.requires in
    rw (c.push_reserved.ensures.items, c.in_ok-reserve.ensures.items, c.in_ok-add.ensures.added, ← c.self.view_is)
    (kept_declaration inside.site (told_at inside.facts inside.originals) inside.periods inside.edited.items inside.assays inside.facts inside.places.items inside.edits.items c.args.at c.in_ok-short.field-0 c.args.declared.now c.self.invariant fine (c.in_ok-short.ensures ∙ c.len.ensures)).rows
