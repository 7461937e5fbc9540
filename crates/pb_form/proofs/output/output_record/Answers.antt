use Rattle.std.proofs.Common.{◌∙◌}
use Rattle.pb_form.proofs.RowTextLemmas.{seen_columns, seen_count, written_by, written_count}
use Rattle.pb_form.proofs.output.output_record.Goals as goal

pub write_texts-requires : goal.write_texts-requires
write_texts-requires c = c.requires ∙ seen_count c.output_schema.result.now c.args.kind c.output_schema.ensures.value

pub returns-clause-fields : goal.returns-clause-fields
returns-clause-fields c = written_by c.write_texts.result _ _ _ (seen_columns c.output_schema.result.now c.args.kind c.output_schema.ensures.value) c.write_texts.ensures.fields

pub returns-clause-each : goal.returns-clause-each
returns-clause-each c =
    written_count c.write_texts.result _ _ c.requires (written_by c.write_texts.result _ _ _ (seen_columns c.output_schema.result.now c.args.kind c.output_schema.ensures.value) c.write_texts.ensures.fields)
