use Rattle.std.proofs.Common.{◌∙◌, ◌<◌, length, arith}
use Rattle.pb_form.proofs.SaidLemmas.{field_faulty, field_said, none_left}
use Rattle.pb_form.proofs.reading.columns_fault.Goals as goal
use Rattle.pb_form.proofs.reading.columns_fault.Goals.{in-Some, in_default}

pub loop-i-preserved : goal.loop-i-preserved
loop-i-preserved c =
    let has : c.loop-i.i < length c.args.fields.now = omega (arith, c.requires, c.loop-i-test.true) in
    let told = rw c.at.ensures at c.field_fault.ensures in
    elim c.match-field_fault.branch [
      | in-Some w ↦ rw (w.first-is, w.soonest.ensures) (field_faulty _ _ _ _ c.loop-i.first _ c.loop-i-test.true has (rw w.in-Some.is at told) ∙ c.loop-i.invariant)
      | in_default w ↦ rw w.first-is (field_said _ _ _ _ c.loop-i.first c.loop-i-test.true has (none_left c.field_fault.result w.in_default.not-Some ∙ told) ∙ c.loop-i.invariant)
    ]
