use Rattle.std.specs.Prelude.{OnOk}
use Rattle.std.proofs.Common.{◌≡◌, ◌∙◌, ◌++◌, List, subst}
use Rattle.pb_form.specs.Columns.{Column}
use Rattle.pb_form.specs.Json.{record_line}
use Rattle.pb_form.proofs.RowTextLemmas.{seen_columns, seen_count}
use Rattle.pb_form.proofs.output.output_json.Goals as goal

pub write_json-requires-clause-each : goal.write_json-requires-clause-each
write_json-requires-clause-each c = c.requires.each ∙ seen_count c.output_schema.result.now c.args.kind c.output_schema.ensures.value

pub returns-clause-appended : goal.returns-clause-appended
returns-clause-appended c =
    subst (λ (columns : List Column). OnOk c.write_json.result (c.write_json.new.out.items ≡ c.args.out.now.items ++ record_line columns c.args.row.now))
    (seen_columns c.output_schema.result.now c.args.kind c.output_schema.ensures.value) c.write_json.ensures.appended
