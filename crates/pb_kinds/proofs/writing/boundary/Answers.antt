use Rattle.std.proofs.Common.{refl}
use Rattle.pb_form.specs.declared.session.SessionKind.TheVariants as kind
use Rattle.pb_kinds.proofs.WrittenLemmas.{written}
use Rattle.pb_kinds.proofs.writing.boundary.Goals as goal

pub session_record-requires-clause-fit : goal.session_record-requires-clause-fit
session_record-requires-clause-fit c =
    rw c.name.ensures.value ((refl, refl), (c.name.ensures.form, tt))

pub returns : goal.returns
returns c =
    written c.session_record.result kind.Boundary _ _ c.session_record.ensures.value c.session_record.ensures.kind
    (rw (c.name.ensures.value, c.name.ensures.form) refl)
