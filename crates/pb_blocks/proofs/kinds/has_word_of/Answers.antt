use Rattle.std.proofs.Common.{◌≡◌, ◌∙◌, [], ◌∷◌, ap}
use Rattle.pb_form.specs.Columns.{Schema}
use Rattle.pb_form.specs.OutputRows.{output_schema}
use Rattle.pb_form.specs.Told.{schema_told}
use Rattle.pb_blocks.proofs.KindLemmas.{another, tells_words, words_alone}
use Rattle.pb_blocks.proofs.kinds.has_word_of.Goals as goal
use Rattle.pb_blocks.specs.Held.{has_word_of}

pub returns-in-Ok : goal.returns-in-Ok
returns-in-Ok c =
    let told : tells_words c.tell.result ≡ has_word_of c.args.fields.now c.args.kind =
    ap tells_words (c.tell.ensures.value ∙ ap (λ (s : Schema). schema_told (s ∷ []) c.args.fields.now) c.output_schema.ensures.value)
    ∙ words_alone (output_schema c.args.kind) c.args.fields.now in
    rw c.in-Ok.is at told

pub returns-in-Err : goal.returns-in-Err
returns-in-Err c =
    let told : tells_words c.tell.result ≡ has_word_of c.args.fields.now c.args.kind =
    ap tells_words (c.tell.ensures.value ∙ ap (λ (s : Schema). schema_told (s ∷ []) c.args.fields.now) c.output_schema.ensures.value)
    ∙ words_alone (output_schema c.args.kind) c.args.fields.now in
    c.ne.ensures ∙ another c.in-Err.fault ∙ rw c.in-Err.is at told
