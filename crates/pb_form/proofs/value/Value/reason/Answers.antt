use Rattle.std.specs.Prelude.{IsUtf8}
use Rattle.pb_form.proofs.JsonLemmas.{reads_text}
use Rattle.pb_form.proofs.TextLemmas.{reason_utf8}
use Rattle.pb_form.proofs.value.Value.reason.Goals as goal

pub unwrap-requires : goal.unwrap-requires
unwrap-requires c =
    let text : IsUtf8 c.bytes.result.now = rw c.bytes.ensures.value (reason_utf8 c.args.reason.now c.bytes.ensures.form) in
    reads_text _ _ _ c.from_utf8.result text c.from_utf8.ensures.cases
