use Rattle.std.proofs.Common.{FitsSigned, refl, arith}
use mir.Syntax.{w64, w128}
use Rattle.std.proofs.lemmas.Int.{ints, to_z-of_z}
use Rattle.pb_form.specs.declared.session.SessionKind.TheVariants as kind
use Rattle.pb_kinds.proofs.WrittenLemmas.{handed_long, written}
use Rattle.pb_kinds.proofs.writing.amend_amount.Goals as goal

pub session_record-requires-clause-fit : goal.session_record-requires-clause-fit
session_record-requires-clause-fit c =
    let grams_fits : FitsSigned w64 c.args.grams = c.ranges.grams in
    let grams = handed_long c.args.grams c.from.result grams_fits (simp to_z-of_z at c.from.ensures) in
    let variance = to_z-of_z w128 c.args.variance c.ranges.variance in
    rw (c.name.ensures.value, grams, variance, c.reason.ensures.value) ((refl, refl), (c.name.ensures.form, ((omega (arith, ints, c.requires.grams), omega (arith, ints, c.requires.grams)), (c.requires.variance, (c.reason.ensures.form, tt)))))

pub returns : goal.returns
returns c =
    let grams_fits : FitsSigned w64 c.args.grams = c.ranges.grams in
    let grams = handed_long c.args.grams c.from.result grams_fits (simp to_z-of_z at c.from.ensures) in
    let variance = to_z-of_z w128 c.args.variance c.ranges.variance in
    written c.session_record.result kind.AmendAmount _ _ c.session_record.ensures.value c.session_record.ensures.kind
    (rw (c.name.ensures.value, grams, variance, c.reason.ensures.value, c.name.ensures.form, c.reason.ensures.form) refl)
