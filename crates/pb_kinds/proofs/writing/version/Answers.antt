use Rattle.std.proofs.Common.{refl}
use Rattle.pb_form.specs.declared.session.SessionKind.TheVariants as kind
use Rattle.pb_kinds.proofs.WrittenLemmas.{written}
use Rattle.pb_kinds.proofs.writing.version.Goals as goal

pub returns : goal.returns
returns c = written c.session_record.result kind.Version _ _ c.session_record.ensures.value c.session_record.ensures.kind refl
