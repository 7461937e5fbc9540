use Rattle.std.proofs.Common.{FitsSigned, refl}
use mir.Syntax.{w64}
use Rattle.std.proofs.lemmas.Int.{to_z-of_z}
use Rattle.pb_form.specs.declared.session.SessionKind.TheVariants as kind
use Rattle.pb_kinds.proofs.WrittenLemmas.{handed_long, written}
use Rattle.pb_kinds.proofs.writing.strap.Goals as goal

pub session_record-requires-clause-fit : goal.session_record-requires-clause-fit
session_record-requires-clause-fit c =
    let mm_fits : FitsSigned w64 c.args.mm = c.ranges.mm in
    let mm = handed_long c.args.mm c.from.result mm_fits (simp to_z-of_z at c.from.ensures) in
    let ml_fits : FitsSigned w64 c.args.ml = c.ranges.ml in
    let ml = handed_long c.args.ml c.from-2.result ml_fits (simp to_z-of_z at c.from-2.ensures) in
    rw (c.name.ensures.value, mm, ml) ((refl, refl), (c.name.ensures.form, (c.requires.level, (c.requires.volume, tt))))

pub returns : goal.returns
returns c =
    let mm_fits : FitsSigned w64 c.args.mm = c.ranges.mm in
    let mm = handed_long c.args.mm c.from.result mm_fits (simp to_z-of_z at c.from.ensures) in
    let ml_fits : FitsSigned w64 c.args.ml = c.ranges.ml in
    let ml = handed_long c.args.ml c.from-2.result ml_fits (simp to_z-of_z at c.from-2.ensures) in
    written c.session_record.result kind.Strap _ _ c.session_record.ensures.value c.session_record.ensures.kind
    (rw (c.name.ensures.value, mm, ml, c.name.ensures.form) refl)
