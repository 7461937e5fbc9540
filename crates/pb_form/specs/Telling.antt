-- Statement. Of which of several kinds a row is, by its words and the number of its fields.
use Rattle.std.specs.Prelude.{ℕ, Bool, true, ◌&&◌, List, [], ◌∷◌, length, Result, bytes_eq, if◌then◌else◌}
use Rattle.std.specs.List.{find, list_any}
use Rattle.std.specs.Option.{ok_or}
use Rattle.pb_form.specs.Columns.{Column, Schema}
use Rattle.pb_form.specs.Holds.{Holds, Word}
use Rattle.pb_form.specs.Reading.{has_count}
use Rattle.pb_form.specs.declared.fault.FormFault.{FormFault}
use Rattle.pb_form.specs.declared.fault.FormFault.TheVariants as fault

-- a field has the word of a column that takes just one word
abbrev pub has_word : Holds → List ℕ → Bool
has_word (Word (word ∷ [])) field = bytes_eq field word
has_word holds field = true

-- the fields of a row, as far as they go, have the words that identify the kind of these columns
abbrev pub agrees : List Column → List (List ℕ) → Bool
agrees (column ∷ columns) (field ∷ fields) = has_word column.holds field && agrees columns fields
agrees columns fields = true

-- a row has the words of a schema as far as it goes, and its number of fields
abbrev pub is_of : List (List ℕ) → Schema → Bool
is_of fields schema = has_count schema (length fields) && agrees schema.columns fields

-- The first of some kinds whose schema a row is of. If it is of none, the fault says whether it has the words of one as far as it goes.
abbrev pub kind_told : {K : Type 0} → (K → Schema) → List K → List (List ℕ) → Result K FormFault
kind_told schema_of kinds fields =
    ok_or (find (λ kind. is_of fields (schema_of kind)) kinds)
    (if list_any (λ kind. agrees (schema_of kind).columns fields) kinds then fault.Fields else fault.Kind)
