use Rattle.std.proofs.Common.{FitsSigned, refl}
use mir.Syntax.{w64, w128}
use Rattle.std.proofs.lemmas.Int.{to_z-of_z}
use Rattle.pb_form.specs.declared.session.SessionKind.TheVariants as kind
use Rattle.pb_kinds.proofs.WrittenLemmas.{handed_long, written}
use Rattle.pb_kinds.proofs.writing.amend_level.Goals as goal

pub session_record-requires-clause-fit : goal.session_record-requires-clause-fit
session_record-requires-clause-fit c =
    let mm_fits : FitsSigned w64 c.args.mm = c.ranges.mm in
    let mm = handed_long c.args.mm c.from.result mm_fits (simp to_z-of_z at c.from.ensures) in
    let density_fits : FitsSigned w64 c.args.density = c.ranges.density in
    let density = handed_long c.args.density c.from-2.result density_fits (simp to_z-of_z at c.from-2.ensures) in
    let variance = to_z-of_z w128 c.args.variance c.ranges.variance in
    rw (c.name.ensures.value, mm, density, variance, c.reason.ensures.value) ((refl, refl), (c.name.ensures.form, (c.requires.level, (c.requires.density, (c.requires.variance, (c.reason.ensures.form, tt))))))

pub returns : goal.returns
returns c =
    let mm_fits : FitsSigned w64 c.args.mm = c.ranges.mm in
    let mm = handed_long c.args.mm c.from.result mm_fits (simp to_z-of_z at c.from.ensures) in
    let density_fits : FitsSigned w64 c.args.density = c.ranges.density in
    let density = handed_long c.args.density c.from-2.result density_fits (simp to_z-of_z at c.from-2.ensures) in
    let variance = to_z-of_z w128 c.args.variance c.ranges.variance in
    written c.session_record.result kind.AmendLevel _ _ c.session_record.ensures.value c.session_record.ensures.kind
    (rw (c.name.ensures.value, mm, density, variance, c.reason.ensures.value, c.name.ensures.form, c.reason.ensures.form) refl)
