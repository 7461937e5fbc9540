use Rattle.std.proofs.Common.{refl}
use mir.Syntax.{w128}
use Rattle.std.proofs.lemmas.Int.{to_z-of_z}
use Rattle.pb_form.specs.declared.session.SessionKind.TheVariants as kind
use Rattle.pb_kinds.proofs.WrittenLemmas.{written}
use Rattle.pb_kinds.proofs.writing.tank.Goals as goal

pub session_record-requires-clause-fit : goal.session_record-requires-clause-fit
session_record-requires-clause-fit c =
    let base = to_z-of_z w128 c.args.base c.ranges.base in
    rw (c.name.ensures.value, base) ((refl, refl), (c.name.ensures.form, (c.requires, tt)))

pub returns : goal.returns
returns c =
    let base = to_z-of_z w128 c.args.base c.ranges.base in
    written c.session_record.result kind.Tank _ _ c.session_record.ensures.value c.session_record.ensures.kind
    (rw (c.name.ensures.value, base, c.name.ensures.form) refl)
