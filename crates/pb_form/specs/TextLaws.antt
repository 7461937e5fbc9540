-- Statement. The texts of values that fit read back as the values, and each row of an output begins with the word of its kind.
use Rattle.std.specs.Prelude.{◌≡◌, true, List, ◌∷◌}
use Rattle.pb_rows.specs.Written.{begins_with_word}
use Rattle.pb_form.specs.Columns.{Schema}
use Rattle.pb_form.specs.OutputRows.{output_columns}
use Rattle.pb_form.specs.Texts.{texts_of}
use Rattle.pb_form.specs.Value.{Value, Word}
use Rattle.pb_form.specs.Writing.{FitEach, Writes}
use Rattle.pb_form.specs.declared.output.OutputKind.{OutputKind}

-- The texts of values that fit the columns of a schema are a record that reads back as the values.
abbrev pub TextLaw : Type 0
TextLaw = (schema : Schema) (values : List Value) → FitEach schema.columns values → Writes schema values (texts_of schema.columns values)

-- Whatever the other values are, the texts of a kind's word and of these values begin with a word.
abbrev pub OutputWordLaw : Type 0
OutputWordLaw = (kind : OutputKind) (values : List Value) → begins_with_word (texts_of (output_columns kind) (Word 0 ∷ values)) ≡ true
