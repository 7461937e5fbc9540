-- Statement. The values of a row by their places.
use Rattle.std.specs.Prelude.{ℕ, ℤ, pos, List, Option, Some, None, option_and_then, slice_get, if◌then◌else◌}
use Rattle.std.specs.Option.{unwrap_or}
use Rattle.pb_rows.specs.Name.{is_name}
use Rattle.pb_rows.specs.Reason.{is_reason}
use Rattle.pb_form.specs.Value.{Value, Word, Name, Reason, Number, Date, Items}

-- the place of the word that a value is
abbrev pub word_in : Value → Option ℕ
word_in (Word place) = Some place
word_in value = None

-- the name that a value is
abbrev pub name_in : Value → Option (List ℕ)
name_in (Name text) = if is_name text then Some text else None
name_in value = None

-- the reason that a value is
abbrev pub reason_in : Value → Option (List ℕ)
reason_in (Reason text) = if is_reason text then Some text else None
reason_in value = None

-- the number that a value is
abbrev pub number_in : Value → Option ℤ
number_in (Number number) = Some number
number_in value = None

-- the day that a value is
abbrev pub day_in : Value → Option ℤ
day_in (Date day) = Some day
day_in value = None

-- the list that a value is
abbrev pub items_in : Value → Option (List ℕ)
items_in (Items text) = Some text
items_in value = None

-- the value at a place, as one of these
abbrev pub value_at : {A : Type 0} → (Value → Option A) → List Value → ℕ → Option A
value_at as_one values place = option_and_then as_one (slice_get values place)

-- the number at a place of a column that holds one
abbrev pub number_at : List Value → ℕ → ℤ
number_at values place = unwrap_or (value_at number_in values place) (pos 0)
