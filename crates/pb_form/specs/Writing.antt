-- Statement. Values that fit their columns, and the record that writes them: the record that reads back as the values.
use Rattle.std.specs.Prelude.{◌≡◌, ℕ, ◌==◌, ◌≤ℤ◌, ◌&&◌, Bool, true, false, List, [], ◌∷◌, length, Ok, Some, bytes_eq, position, slice_index_or}
use Rattle.pb_rows.specs.Date.{IsDay}
use Rattle.pb_rows.specs.Name.{is_name}
use Rattle.pb_rows.specs.Reason.{is_reason}
use Rattle.pb_form.specs.Columns.{Column, Schema}
use Rattle.pb_form.specs.Holds.{Holds}
use Rattle.pb_form.specs.Holds as holds
use Rattle.pb_form.specs.Reading.{row_read}
use Rattle.pb_form.specs.Value.{Value, Missing, Word, Name, Reason, Number, Date, Items}

-- the word at a place
abbrev pub word_at : List (List ℕ) → ℕ → List ℕ
word_at words place = slice_index_or words place []

-- a text isn't mistaken for a field that is left out
abbrev pub IsTold : Bool → List ℕ → Type 0
IsTold optional text = (optional && (length text == 0)) ≡ false

-- the word at a place is at no earlier place
abbrev pub IsFirst : List (List ℕ) → ℕ → Type 0
IsFirst words place = position (bytes_eq (word_at words place)) words ≡ Some place

-- a value is one that a column takes: none if the column is optional, a word by its place, a name, a reason, a number in its range,
-- the day of a date, or a list
abbrev pub FitsIn : Holds → Bool → Value → Type 0
FitsIn takes optional Missing = optional ≡ true
FitsIn (holds.Word words) optional (Word place) = IsFirst words place × IsTold optional (word_at words place)
FitsIn holds.Name optional (Name text) = is_name text ≡ true
FitsIn holds.Reason optional (Reason text) = is_reason text ≡ true
FitsIn (holds.Number lo hi) optional (Number z) = (lo ≤ℤ z) × (z ≤ℤ hi)
FitsIn holds.Date optional (Date day) = IsDay day
FitsIn holds.Items optional (Items text) = IsTold optional text
FitsIn takes optional value = ⊥

abbrev pub FitsColumn : Column → Value → Type 0
FitsColumn column value = FitsIn column.holds column.optional value

-- each value fits its column, and there is one for each
abbrev pub FitEach : List Column → List Value → Type 0
FitEach [] [] = Unit {0}
FitEach (column ∷ columns) (value ∷ values) = FitsColumn column value × FitEach columns values
FitEach columns values = ⊥

-- A record writes values by a schema: it reads as them.
abbrev pub Writes : Schema → List Value → List (List ℕ) → Type 0
Writes schema values fields = row_read schema fields ≡ Ok values
