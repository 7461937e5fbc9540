use Rattle.std.proofs.Common.{subst, sym, IsUtf8}
use Rattle.pb_form.proofs.JsonLemmas.{reads_text}
use Rattle.pb_form.proofs.json.text_at.Goals as goal

pub unwrap-requires : goal.unwrap-requires
unwrap-requires c = reads_text _ _ _ c.from_utf8.result (subst IsUtf8 (sym c.field.ensures) (c.requires.texts c.args.i _ c.requires.there)) c.from_utf8.ensures.cases
