use Rattle.std.proofs.Common.{◌≡◌, ◌∙◌, length, sym, rules}
use Rattle.std.proofs.lemmas.List.{length-map}
use Rattle.pb_facts.specs.Changes.{amended, struck}
use Rattle.pb_kinds.specs.declared.rows.Edit.TheVariants as edits
use Rattle.pb_book.specs.declared.rows.Edited.{Edited}
use Rattle.pb_book.specs.Kept.{told_at}
use Rattle.pb_book.proofs.FactLemmas.{strike_there}
use Rattle.pb_book.proofs.KeptLemmas.{kept_edit, kept_same}
use Rattle.pb_book.proofs.OriginalLemmas.{told_amended, told_struck}
use Rattle.pb_book.proofs.book.Book.add_edit.Goals.{in-Change+in_ok-keep_original-in-Change, in-Strike}
use Rattle.pb_book.proofs.book.Book.add_edit.Goals as goal

pub strike-requires : goal.strike-requires
strike-requires c =
    let inside = c.self.inside in
    let fine = rw (← c.self.view_is, c.in-Strike.is) at c.requires in
    strike_there _ inside.site inside.facts inside.periods inside.assays c.args.id.now c.args.reason.now c.self.invariant.parts fine

pub invariant_of-self-in_err-keep_original-in-Change : goal.invariant_of-self-in_err-keep_original-in-Change
invariant_of-self-in_err-keep_original-in-Change c =
    let inside = c.self.inside in
    rw (c.in_ok-reserve.ensures.items, c.in_ok-reserve-2.ensures.items, c.in_ok-reserve-3.ensures.items)
    (kept_same inside.site (told_at inside.facts inside.originals) (told_at inside.facts c.keep_original.new.originals) inside.periods inside.edited.items inside.assays inside.facts inside.places.items inside.edits.items
    c.self.invariant c.keep_original.ensures.told).right

pub invariant_of-self-2 : goal.invariant_of-self-2
invariant_of-self-2 c =
    let inside = c.self.inside in
    let last : c.in_ok-short.field-0 ≡ length inside.edited.items = c.in_ok-short.ensures ∙ search rules in
    elim c.match-edit.branch [
      | in-Change+in_ok-keep_original-in-Change w ↦
          let one : Edited = record { id = c.args.id.now; edit = edits.Change w.in-Change.change; reason = c.args.reason.now } in
          let fine = rw (← c.self.view_is, w.in-Change.is) at c.requires in
          rw (c.push_reserved-3.ensures.items, c.push_reserved-2.ensures.items, c.push_reserved.ensures.items, w.self-inside-is, c.in_ok-reserve.ensures.items, c.in_ok-reserve-2.ensures.items, c.in_ok-reserve-3.ensures.items, w.amend.ensures, w.in-Change.is)
          (kept_edit inside.site (told_at inside.facts inside.originals) (told_at (amended c.args.id.now w.in-Change.change inside.facts) w.keep_original.new.originals) inside.periods inside.edited.items inside.assays inside.facts inside.places.items inside.edits.items c.args.at c.in_ok-short.field-0 one c.self.invariant fine
          last (sym (length-map inside.facts _)) (λ i. told_amended c.args.id.now w.in-Change.change inside.facts w.keep_original.new.originals w.in_ok-keep_original-in-Change.ensures.kept i ∙ w.keep_original.ensures.told i)).right
      | in-Strike w ↦
          let one : Edited = record { id = c.args.id.now; edit = edits.Strike; reason = c.args.reason.now } in
          let fine = rw (← c.self.view_is, w.in-Strike.is) at c.requires in
          rw (c.push_reserved-3.ensures.items, c.push_reserved-2.ensures.items, c.push_reserved.ensures.items, w.self-inside-is, c.in_ok-reserve.ensures.items, c.in_ok-reserve-2.ensures.items, c.in_ok-reserve-3.ensures.items, w.strike.ensures, w.in-Strike.is)
          (kept_edit inside.site (told_at inside.facts inside.originals) (told_at (struck c.args.id.now inside.facts) inside.originals) inside.periods inside.edited.items inside.assays inside.facts inside.places.items inside.edits.items c.args.at c.in_ok-short.field-0 one c.self.invariant fine
          last (sym (length-map inside.facts _)) (told_struck c.args.id.now inside.facts inside.originals)).right
    ]

pub returns-clause-ok : goal.returns-clause-ok
returns-clause-ok c =
    let inside = c.self.inside in
    let last : c.in_ok-short.field-0 ≡ length inside.edited.items = c.in_ok-short.ensures ∙ search rules in
    elim c.match-edit.branch [
      | in-Change+in_ok-keep_original-in-Change w ↦
          let one : Edited = record { id = c.args.id.now; edit = edits.Change w.in-Change.change; reason = c.args.reason.now } in
          let fine = rw (← c.self.view_is, w.in-Change.is) at c.requires in
          rw (c.push_reserved-3.ensures.items, c.push_reserved.ensures.items, w.self-inside-is, c.in_ok-reserve.ensures.items, c.in_ok-reserve-3.ensures.items, w.amend.ensures, ← c.self.view_is, w.in-Change.is)
          (kept_edit inside.site (told_at inside.facts inside.originals) (told_at (amended c.args.id.now w.in-Change.change inside.facts) w.keep_original.new.originals) inside.periods inside.edited.items inside.assays inside.facts inside.places.items inside.edits.items c.args.at c.in_ok-short.field-0 one c.self.invariant fine
          last (sym (length-map inside.facts _)) (λ i. told_amended c.args.id.now w.in-Change.change inside.facts w.keep_original.new.originals w.in_ok-keep_original-in-Change.ensures.kept i ∙ w.keep_original.ensures.told i)).rows
      | in-Strike w ↦
          let one : Edited = record { id = c.args.id.now; edit = edits.Strike; reason = c.args.reason.now } in
          let fine = rw (← c.self.view_is, w.in-Strike.is) at c.requires in
          rw (c.push_reserved-3.ensures.items, c.push_reserved.ensures.items, w.self-inside-is, c.in_ok-reserve.ensures.items, c.in_ok-reserve-3.ensures.items, w.strike.ensures, ← c.self.view_is, w.in-Strike.is)
          (kept_edit inside.site (told_at inside.facts inside.originals) (told_at (struck c.args.id.now inside.facts) inside.originals) inside.periods inside.edited.items inside.assays inside.facts inside.places.items inside.edits.items c.args.at c.in_ok-short.field-0 one c.self.invariant fine
          last (sym (length-map inside.facts _)) (told_struck c.args.id.now inside.facts inside.originals)).rows
    ]
