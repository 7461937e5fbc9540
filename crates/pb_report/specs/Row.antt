-- Statement. A row of the output: its kind, and a value for each column of its kind.
use Rattle.std.specs.Prelude.{ℕ, List, ◌∷◌, Option}
use Rattle.std.specs.Option.{option_map_or}
use Rattle.pb_form.specs.OutputRows.{output_columns}
use Rattle.pb_form.specs.Texts.{texts_of}
use Rattle.pb_form.specs.Value.{Value, Missing, Word}
use Rattle.pb_form.specs.declared.output.OutputKind.{OutputKind}

-- a kind, and the values of its columns, the first of which is the kind's word
pub record OutputRow : Type 0 where
  pub kind : OutputKind
  pub values : List Value

-- a row of a kind, with these values after the kind's word
abbrev pub row_of : OutputKind → List Value → OutputRow
row_of kind values = record { kind = kind; values = Word 0 ∷ values }

-- the value of an item, or nothing if there is none
abbrev pub value_or_none : {A : Type 0} → (A → Value) → Option A → Value
value_or_none value item = option_map_or value item Missing

-- the fields of a row: the text of each value
abbrev pub fields_of : OutputRow → List (List ℕ)
fields_of row = texts_of (output_columns row.kind) row.values
