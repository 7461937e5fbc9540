use Rattle.std.specs.Prelude.{IsUtf8}
use Rattle.pb_rows.proofs.NameLemmas.{reason_utf8, reads_text}
use Rattle.pb_rows.proofs.reason.Reason.as_str.Goals as goal

pub unwrap-requires : goal.unwrap-requires
unwrap-requires c =
    let text : IsUtf8 c.bytes.result.now = rw c.bytes.ensures.value (reason_utf8 c.args.self.now c.bytes.ensures.form) in
    reads_text _ _ _ c.from_utf8.result text c.from_utf8.ensures.cases
