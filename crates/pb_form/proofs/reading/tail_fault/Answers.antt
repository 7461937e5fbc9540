use Rattle.std.specs.Prelude.{map, Option}
use Rattle.std.proofs.Common.{◌≡◌, ◌∙◌, ◌<◌, ◌+◌, ◌-◌, ℕ, [], length, drop, arith}
use Rattle.pb_form.specs.Reading.{fields_read, repeated}
use Rattle.pb_form.specs.Seen.{column_seen}
use Rattle.pb_form.specs.Told.{fault_in, joined, so_far}
use Rattle.pb_form.specs.declared.fault.FormFault.{FormFault}
use Rattle.pb_form.proofs.ReadingLemmas.{next_turn, tail_err, tail_ok}
use Rattle.pb_form.proofs.SaidLemmas.{fault_told, none_left, none_told}
use Rattle.pb_form.proofs.reading.tail_fault.Goals as goal
use Rattle.pb_form.proofs.reading.tail_fault.Goals.{in-Some, in_default, then-place-tail, else-place-tail}

pub loop-i-preserved : goal.loop-i-preserved
loop-i-preserved c =
    let has : c.loop-i.i < length c.args.fields.now = omega arith in
    let there : c.loop-i.place < length c.args.tail.now = c.loop-i.invariant.place in
    let judged : (next : ℕ) → Option FormFault → Type 0 = λ next first.
    fault_in (joined (so_far first []) (fields_read (repeated (map column_seen c.args.tail.now) (map column_seen (drop next c.args.tail.now)) (length c.args.fields.now - (c.loop-i.i + 1))) (drop (c.loop-i.i + 1) c.args.fields.now)))
    ≡ fault_in (fields_read (repeated (map column_seen c.args.tail.now) [] (length c.args.fields.now - c.args.start)) (drop c.args.start c.args.fields.now)) in
    let told = rw c.at.ensures at c.field_fault.ensures in
    let read : judged (c.loop-i.place + 1) c.match-field_fault.first = elim c.match-field_fault.branch [
      | in-Some w ↦ rw (w.first-is, w.soonest.ensures) (tail_err _ _ _ _ _ _ c.loop-i.first _ there has (fault_told _ _ (rw w.in-Some.is at told)) ∙ c.loop-i.invariant.rest)
      | in_default w ↦ rw w.first-is (tail_ok _ _ _ _ _ _ c.loop-i.first _ there has (none_told _ (none_left c.field_fault.result w.in_default.not-Some ∙ told)) ∙ c.loop-i.invariant.rest)
    ] in
    elim c.if-place-tail.branch [
      | then-place-tail w ↦ record { place = rw w.place-is (omega arith); rest = rw w.place-is read }
      | else-place-tail w ↦ record { place = rw w.place-is (omega arith); rest = rw (w.place-is, next_turn c.args.tail.now c.loop-i.place _ there (omega arith)) read }
    ]
