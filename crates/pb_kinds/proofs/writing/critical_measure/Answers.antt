use Rattle.std.proofs.Common.{FitsSigned, refl}
use mir.Syntax.{w64}
use Rattle.std.proofs.lemmas.Int.{to_z-of_z}
use Rattle.pb_form.specs.declared.session.SessionKind.TheVariants as kind
use Rattle.pb_kinds.proofs.WrittenLemmas.{handed_long, written}
use Rattle.pb_kinds.proofs.writing.critical_measure.Goals as goal

pub session_record-requires-clause-fit : goal.session_record-requires-clause-fit
session_record-requires-clause-fit c =
    let value_fits : FitsSigned w64 c.args.value = c.ranges.value in
    let value = handed_long c.args.value c.from.result value_fits (simp to_z-of_z at c.from.ensures) in
    rw value ((refl, refl), ((refl, refl), (c.requires, tt)))

pub returns : goal.returns
returns c =
    let value_fits : FitsSigned w64 c.args.value = c.ranges.value in
    let value = handed_long c.args.value c.from.result value_fits (simp to_z-of_z at c.from.ensures) in
    written c.session_record.result kind.CriticalMeasure _ _ c.session_record.ensures.value c.session_record.ensures.kind
    (rw value refl)
