use Rattle.std.proofs.Common.{FitsSigned, refl, arith}
use mir.Syntax.{w64}
use Rattle.std.proofs.lemmas.Int.{ints, to_z-of_z}
use Rattle.pb_form.specs.declared.session.SessionKind.TheVariants as kind
use Rattle.pb_kinds.proofs.WrittenLemmas.{handed_dof, handed_long, written}
use Rattle.pb_kinds.proofs.writing.critical_global.Goals as goal

pub session_record-requires-clause-fit : goal.session_record-requires-clause-fit
session_record-requires-clause-fit c =
    let dof = handed_dof c.args.dof c.from.result c.requires.most c.from.ensures in
    let value_fits : FitsSigned w64 c.args.value = c.ranges.value in
    let value = handed_long c.args.value c.from-2.result value_fits (simp to_z-of_z at c.from-2.ensures) in
    rw (dof, value) ((refl, refl), ((refl, refl), ((omega (arith, ints, c.requires.some), omega (arith, ints, c.requires.most)), (c.requires.value, tt))))

pub returns : goal.returns
returns c =
    let dof = handed_dof c.args.dof c.from.result c.requires.most c.from.ensures in
    let value_fits : FitsSigned w64 c.args.value = c.ranges.value in
    let value = handed_long c.args.value c.from-2.result value_fits (simp to_z-of_z at c.from-2.ensures) in
    written c.session_record.result kind.CriticalGlobal _ _ c.session_record.ensures.value c.session_record.ensures.kind
    (rw (dof, value) refl)
