use Rattle.std.proofs.Common.{FitsSigned, refl, arith}
use mir.Syntax.{w64}
use Rattle.std.proofs.lemmas.Int.{ints, to_z-of_z}
use Rattle.pb_form.specs.declared.session.SessionKind.TheVariants as kind
use Rattle.pb_kinds.proofs.WrittenLemmas.{handed_long, written}
use Rattle.pb_kinds.proofs.writing.assay.Goals as goal

pub session_record-requires-clause-fit : goal.session_record-requires-clause-fit
session_record-requires-clause-fit c =
    let ppm_fits : FitsSigned w64 c.args.assay.now.grade.ppm = omega (arith, ints, c.requires.least, c.requires.most) in
    let ppm = handed_long c.args.assay.now.grade.ppm c.from.result ppm_fits (simp to_z-of_z at c.from.ensures) in
    let variance_fits : FitsSigned w64 c.args.assay.now.grade.variance = omega (arith, ints, c.requires.exact, c.requires.widest) in
    let variance = handed_long c.args.assay.now.grade.variance c.from-2.result variance_fits (simp to_z-of_z at c.from-2.ensures) in
    rw (c.name.ensures.value, c.name-2.ensures.value, c.name-3.ensures.value, ppm, variance)
    ((refl, refl), (c.name.ensures.form, (c.name-2.ensures.form, (c.name-3.ensures.form, ((c.requires.least, c.requires.most), ((c.requires.exact, c.requires.widest), tt))))))

pub returns : goal.returns
returns c =
    let ppm_fits : FitsSigned w64 c.args.assay.now.grade.ppm = omega (arith, ints, c.requires.least, c.requires.most) in
    let ppm = handed_long c.args.assay.now.grade.ppm c.from.result ppm_fits (simp to_z-of_z at c.from.ensures) in
    let variance_fits : FitsSigned w64 c.args.assay.now.grade.variance = omega (arith, ints, c.requires.exact, c.requires.widest) in
    let variance = handed_long c.args.assay.now.grade.variance c.from-2.result variance_fits (simp to_z-of_z at c.from-2.ensures) in
    written c.session_record.result kind.Assay _ _ c.session_record.ensures.value c.session_record.ensures.kind
    (rw (c.name.ensures.value, c.name-2.ensures.value, c.name-3.ensures.value, ppm, variance, c.name.ensures.form, c.name-2.ensures.form, c.name-3.ensures.form) refl)
