use Rattle.std.specs.Prelude.{filter_map, map, take}
use Rattle.std.specs.List.{cons_option}
use Rattle.std.specs.Option.{option_map}
use Rattle.std.proofs.Common.{◌≡◌, ◌∙◌, ◌+◌, ◌<◌, ◌≤◌, ◌++◌, [], List, suc, pos, false, length, arith, ap, subst, sym, append_assoc}
use Rattle.std.proofs.lemmas.List.{take_all}
use Rattle.pb_facts.specs.declared.fact.Fact.TheVariants.{Reading}
use Rattle.pb_facts.specs.declared.facts.KeptFact.{KeptFact}
use Rattle.pb_facts.specs.Facts.{live_at, live_fact}
use Rattle.pb_kinds.specs.declared.rows.Effect.{Effect}
use Rattle.pb_book.specs.Kept.{settled_at}
use Rattle.pb_book.specs.Plain.{booked}
use Rattle.pb_book.specs.Written.{WriteRows}
use Rattle.pb_book.proofs.RecordLemmas.{adds, live_more}
use Rattle.pb_book.proofs.plain.plain_records.Goals as goal

pub loop-i-preserved : goal.loop-i-preserved
loop-i-preserved c =
    let facts = c.args.facts.now in
    let i = c.loop-i.i in
    let settled = settled_at c.args.declared.now c.args.periods.now c.args.assays.now c.args.places.now in
    let before = map booked (filter_map live_fact (take i facts)) in
    let next : i + 1 ≡ suc i = omega arith in
    let lt : i < length facts = omega (arith, c.loop-i-test.true, c.len-i-end.ensures.value) in
    let some : KeptFact = record { fact = Reading [] [] (pos 0) (pos 0) (pos 0); struck = false } in
    let one = option_map booked (live_at facts i) in
    let more = adds c.loop-i.records c.push_live.new.records (settled ++ before) one c.loop-i.invariant c.in_ok-push_live.ensures in
    rw next
    (subst (λ (rows : List Effect). WriteRows c.push_live.new.records rows)
    (append_assoc settled before (cons_option one []) ∙ sym (ap (λ (rows : List Effect). settled ++ rows) (live_more facts i some lt))) more)

pub returns : goal.returns
returns c =
    let facts = c.args.facts.now in
    let past : length facts ≤ c.loop-i.i = omega (arith, c.loop-i-test.false, c.len-i-end.ensures.value) in
    subst
    (λ (ks : List KeptFact). WriteRows c.loop-i.records (settled_at c.args.declared.now c.args.periods.now c.args.assays.now c.args.places.now ++ map booked (filter_map live_fact ks)))
    (take_all c.loop-i.i facts past) c.loop-i.invariant
