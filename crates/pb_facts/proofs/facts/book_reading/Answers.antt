use Rattle.std.specs.Prelude.{is_none}
use Rattle.std.proofs.Common.{◌∙◌, Ok, ap, sym}
use Rattle.pb_facts.specs.Shelf.{stream_or_tank}
use Rattle.pb_facts.proofs.NumberLemmas.{known_name}
use Rattle.pb_facts.proofs.PlaceLemmas.{day_repeated, day_taken, id_repeated, kept_more, key_number, none_repeated}
use Rattle.pb_facts.proofs.facts.book_reading.Goals as goal

pub returns-then-contains_key-clause-fault : goal.returns-then-contains_key-clause-fault
returns-then-contains_key-clause-fault c =
    let taken = day_taken c.args.shelf.now.facts c.args.shelf.now.names c.args.places.now c.args.key c.args.reading.now c.requires.kept c.requires.key in
    ap is_none (day_repeated c.args.shelf.now.facts c.args.reading.now (sym taken ∙ sym c.contains_key.ensures ∙ c.if-contains_key.true))

pub returns-then-not-branch-clause-fault : goal.returns-then-not-branch-clause-fault
returns-then-not-branch-clause-fault c = ap is_none (id_repeated c.args.shelf.now.facts c.args.reading.now (rw c.if-not-branch.true at c.in_ok-push_new.ensures.new))

pub returns-clause-fault : goal.returns-clause-fault
returns-clause-fault c =
    let taken = day_taken c.args.shelf.now.facts c.args.shelf.now.names c.args.places.now c.args.key c.args.reading.now c.requires.kept c.requires.key in
    ap is_none (none_repeated c.args.shelf.now.facts c.args.shelf.now.names c.args.key c.args.reading.now c.requires.key (rw c.if-not-branch.false at c.in_ok-push_new.ensures.new)
    (sym taken ∙ sym c.contains_key.ensures ∙ c.if-contains_key.false) c.requires.room)

pub returns-clause-kept : goal.returns-clause-kept
returns-clause-kept c =
    let kept = c.args.shelf.now.facts in
    let names = c.args.shelf.now.names in
    let fact = c.args.reading.now in
    let number = key_number names c.args.key fact c.requires.key in
    let known = known_name names (stream_or_tank fact) c.args.key.0 number in
    let taken = day_taken kept names c.args.places.now c.args.key fact c.requires.kept c.requires.key in
    let fine = none_repeated kept names c.args.key fact c.requires.key (rw c.if-not-branch.false at c.in_ok-push_new.ensures.new) (sym taken ∙ sym c.contains_key.ensures ∙ c.if-contains_key.false) c.requires.room in
    rw (c.in_ok-push_new.ensures.pushed (ap Ok c.if-not-branch.false), c.in_ok-push_new.ensures.names)
    (kept_more kept names names c.args.places.now c.reserve.new.self c.note.new.self fact c.args.key.0 c.len-place.result c.requires.kept c.in_ok-reserve.ensures.same c.note.ensures
    (sym known.0) number (sym fine) c.requires.in_range c.len-place.ensures.value)
