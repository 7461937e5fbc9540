-- Statement. The form of the output: how rows become text.
use Rattle.std.specs.Prelude.{◌≡◌, ◌++◌, ℕ, List}
use Rattle.std.specs.List.{flat_map}
use Rattle.pb_rows.specs.Written.{line_of}
use Rattle.pb_form.specs.Json.{record_line}
use Rattle.pb_form.specs.OutputRows.{output_columns}
use Rattle.pb_report.specs.declared.form.Form.{Form}
use Rattle.pb_report.specs.declared.form.Form.TheVariants.{Csv, Json}
use Rattle.pb_report.specs.Row.{OutputRow, fields_of}

-- the text of a row in a form: its fields as `csv` writes them, or an object of them under the keys of their columns as `serde_json`
-- writes it
abbrev pub row_text : Form → OutputRow → List ℕ
row_text Csv row = line_of (fields_of row)
row_text Json row = record_line (output_columns row.kind) (fields_of row)

-- the text of rows in a form, one after the other
abbrev pub text_in : Form → List OutputRow → List ℕ
text_in form rows = flat_map (row_text form) rows

-- a text gains rows in a form
abbrev pub AppendsRows : Form → List ℕ → List ℕ → List OutputRow → Type 0
AppendsRows form old new rows = new ≡ old ++ text_in form rows
