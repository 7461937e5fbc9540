use Rattle.std.proofs.Common.{refl}
use mir.Syntax.{w32}
use Rattle.std.proofs.lemmas.Int.{to_z-of_z}
use Rattle.pb_form.specs.declared.session.SessionKind.TheVariants as kind
use Rattle.pb_kinds.proofs.WrittenLemmas.{written}
use Rattle.pb_kinds.proofs.writing.period.Goals as goal

pub session_record-requires-clause-fit : goal.session_record-requires-clause-fit
session_record-requires-clause-fit c =
    let first = to_z-of_z w32 c.args.first c.ranges.first in
    let last = to_z-of_z w32 c.args.last c.ranges.last in
    rw (c.name.ensures.value, first, last) ((refl, refl), (c.name.ensures.form, (c.requires.begins, (c.requires.ends, tt))))

pub returns : goal.returns
returns c =
    let first = to_z-of_z w32 c.args.first c.ranges.first in
    let last = to_z-of_z w32 c.args.last c.ranges.last in
    written c.session_record.result kind.Period _ _ c.session_record.ensures.value c.session_record.ensures.kind
    (rw (c.name.ensures.value, first, last, c.name.ensures.form) refl)
