use Rattle.std.proofs.Common.{FitsSigned, refl, arith}
use mir.Syntax.{w32, w128}
use Rattle.std.proofs.lemmas.Int.{ints, to_z-of_z}
use Rattle.pb_form.specs.declared.session.SessionKind.TheVariants as kind
use Rattle.pb_kinds.proofs.WrittenLemmas.{written}
use Rattle.pb_kinds.proofs.writing.tank_in_service.Goals as goal

pub session_record-requires-clause-fit : goal.session_record-requires-clause-fit
session_record-requires-clause-fit c =
    let base = to_z-of_z w128 c.args.base c.ranges.base in
    let since_fits : FitsSigned w32 c.args.service.now.since = omega (arith, ints, c.requires.service.since) in
    let until_fits : FitsSigned w32 c.args.service.now.until = omega (arith, ints, c.requires.service.until) in
    let since = to_z-of_z w32 c.args.service.now.since since_fits in
    let until = to_z-of_z w32 c.args.service.now.until until_fits in
    rw (c.name.ensures.value, base, since, until)
    ((refl, refl), (c.name.ensures.form, (c.requires.base, (c.requires.service.since, (c.requires.service.until, tt)))))

pub returns : goal.returns
returns c =
    let base = to_z-of_z w128 c.args.base c.ranges.base in
    let since_fits : FitsSigned w32 c.args.service.now.since = omega (arith, ints, c.requires.service.since) in
    let until_fits : FitsSigned w32 c.args.service.now.until = omega (arith, ints, c.requires.service.until) in
    let since = to_z-of_z w32 c.args.service.now.since since_fits in
    let until = to_z-of_z w32 c.args.service.now.until until_fits in
    written c.session_record.result kind.TankInService _ _ c.session_record.ensures.value c.session_record.ensures.kind
    (rw (c.name.ensures.value, base, since, until, c.name.ensures.form) refl)
