use Rattle.pb_rows.proofs.TextLaws.{date_texts, number_texts}
use Rattle.pb_form.specs.Seen.{schema_seen}
use Rattle.pb_form.proofs.RowTextLemmas.{texts_back, written_back}
use Rattle.pb_form.proofs.writing.write.Goals as goal

pub returns-clause-value : goal.returns-clause-value
returns-clause-value c = written_back (texts_back number_texts date_texts) (schema_seen c.args.schema.now) _ c.write_texts.result c.requires.fit c.write_texts.ensures.fields
