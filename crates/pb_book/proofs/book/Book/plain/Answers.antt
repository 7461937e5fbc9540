use Rattle.std.specs.Prelude.{map, IfOk}
use Rattle.std.proofs.Common.{◌≡◌, ◌∙◌, ◌++◌, List, ap₂, subst, sym}
use Rattle.pb_site.specs.declared.declared.Declared.{Declared}
use Rattle.pb_facts.specs.declared.facts.KeptFact.{KeptFact}
use Rattle.pb_facts.specs.Facts.{live_facts}
use Rattle.pb_kinds.specs.declared.rows.Effect.{Effect}
use Rattle.pb_book.specs.declared.rows.Place.{Place}
use Rattle.pb_book.specs.Kept.{rows_at, settled_at, shelves_of, told_at}
use Rattle.pb_book.specs.Plain.{booked, plain_rows, settled_rows}
use Rattle.pb_book.specs.Written.{WriteRows}
use Rattle.pb_book.proofs.RecordLemmas.{settled_places}
use Rattle.pb_book.proofs.book.Book.plain.Goals as goal

pub returns : goal.returns
returns c =
    let inside = c.self.inside in
    let rows = rows_at (shelves_of inside.site (told_at inside.facts inside.originals) inside.periods inside.edited.items inside.assays) inside.places.items in
    let settled : settled_at c.declared.result.now inside.periods inside.assays c.deref.result.now ≡ settled_rows rows =
    ap₂ (λ (ds : List Declared) (ps : List Place). settled_at ds inside.periods inside.assays ps) c.declared.ensures.value c.deref.ensures.value
    ∙ sym (settled_places inside.site (told_at inside.facts inside.originals) inside.periods inside.edited.items inside.assays inside.places.items) in
    let all : settled_at c.declared.result.now inside.periods inside.assays c.deref.result.now ++ map booked (live_facts inside.facts) ≡ plain_rows rows =
    ap₂ (λ (xs : List Effect) (ks : List KeptFact). xs ++ map booked (live_facts ks)) settled c.self.invariant.parts.facts in
    rw (← c.self.view_is)
    (subst (λ (rs : List Effect). IfOk c.plain_records.result (λ records. WriteRows records rs)) all c.plain_records.ensures)
