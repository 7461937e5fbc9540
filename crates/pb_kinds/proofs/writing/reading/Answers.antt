use Rattle.std.proofs.Common.{FitsSigned, refl}
use mir.Syntax.{w32, w64, w128}
use Rattle.std.proofs.lemmas.Int.{to_z-of_z}
use Rattle.pb_form.specs.declared.session.SessionKind.TheVariants as kind
use Rattle.pb_kinds.proofs.WrittenLemmas.{handed_long, written}
use Rattle.pb_kinds.proofs.writing.reading.Goals as goal

pub returns-then-late : goal.returns-then-late
returns-then-late c =
    let day = to_z-of_z w32 c.args.day c.ranges.day in
    let grams_fits : FitsSigned w64 c.args.grams = c.ranges.grams in
    let grams = handed_long c.args.grams c.from.result grams_fits (simp to_z-of_z at c.from.ensures) in
    let variance = to_z-of_z w128 c.args.variance c.ranges.variance in
    rw c.if-late.true (written c.session_record.result kind.LateReading _ _ c.session_record.ensures.value c.session_record.ensures.kind
    (rw (c.name.ensures.value, c.name-2.ensures.value, day, grams, variance, c.name.ensures.form, c.name-2.ensures.form) refl))

pub returns-else-late : goal.returns-else-late
returns-else-late c =
    let day = to_z-of_z w32 c.args.day c.ranges.day in
    let grams_fits : FitsSigned w64 c.args.grams = c.ranges.grams in
    let grams = handed_long c.args.grams c.from.result grams_fits (simp to_z-of_z at c.from.ensures) in
    let variance = to_z-of_z w128 c.args.variance c.ranges.variance in
    rw c.if-late.false (written c.session_record-else-late.result kind.Reading _ _ c.session_record-else-late.ensures.value c.session_record-else-late.ensures.kind
    (rw (c.name.ensures.value, c.name-2.ensures.value, day, grams, variance, c.name.ensures.form, c.name-2.ensures.form) refl))
