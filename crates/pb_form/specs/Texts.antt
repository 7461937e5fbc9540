-- Statement. The text of each value of a row.
use Rattle.std.specs.Prelude.{ℕ, List, [], ◌∷◌, slice_index_or}
use Rattle.pb_rows.specs.Number.{whole_text}
use Rattle.pb_form.specs.Columns.{Column}
use Rattle.pb_form.specs.Days.{text_of_day}
use Rattle.pb_form.specs.Holds.{Holds}
use Rattle.pb_form.specs.Holds as holds
use Rattle.pb_form.specs.Value.{Value, Word, Name, Reason, Number, Date, Items}

-- the text of a value by what its column takes: the name, reason or list as it is, the digits of the number, the date of the day, the
-- word at its place, or nothing for a missing value
abbrev pub value_text : Holds → Value → List ℕ
value_text takes (Name text) = text
value_text takes (Reason text) = text
value_text takes (Items text) = text
value_text takes (Number number) = whole_text number
value_text takes (Date day) = text_of_day day
value_text (holds.Word words) (Word place) = slice_index_or words place []
value_text takes value = []

-- The fields of a row: the text of each value, one for each column.
abbrev pub texts_of : List Column → List Value → List (List ℕ)
texts_of (column ∷ columns) (value ∷ values) = value_text column.holds value ∷ texts_of columns values
texts_of columns values = []
