-- Statement. Numbers and days have one text each, which reads back; rows that begin with a word read back too.
use Rattle.std.specs.Prelude.{◌≡◌, ℕ, ℤ, pos, List, Some, true}
use Rattle.std.specs.List.{list_all}
use Rattle.jiff_core.specs.Calendar.{days_from_civil}
use Rattle.pb_rows.specs.Date.{IsDate, IsDay, date_text, day_of}
use Rattle.pb_rows.specs.Number.{number, whole_text}
use Rattle.pb_rows.specs.Records.{records_of}
use Rattle.pb_rows.specs.Written.{begins_with_word, text_of_rows}

-- a field writes a whole number exactly when it is the number's text
pub record HaveOneNumberText : Type 0 where
  pub read : (z : ℤ) → number (whole_text z) ≡ Some z
  pub only : (field : List ℕ) (z : ℤ) → number field ≡ Some z → field ≡ whole_text z

-- a field writes a day
abbrev pub WritesDay : List ℕ → ℤ → Type 0
WritesDay field n = day_of field ≡ Some n

-- this field is the text of a date, and the day is that date's
pub record IsDateOf (field : List ℕ) (n : ℤ) (year month day : ℕ) : Type 0 where
  pub date : IsDate year month day
  pub text : field ≡ date_text year month day
  pub number : n ≡ days_from_civil (pos year) month day

-- A field writes a day exactly when it is the text of a date of the calendar from 1900 to 2199, and the day is that date's.
-- Each day number from the first of these dates to the last has such a text, and no other.
pub record HaveOneDateText : Type 0 where
  pub read : (year month day : ℕ) → IsDate year month day
      → WritesDay (date_text year month day) (days_from_civil (pos year) month day)
  pub only : (field : List ℕ) (n : ℤ) → WritesDay field n → (year : ℕ) × ((month : ℕ) × ((day : ℕ) × IsDateOf field n year month day))
  pub within : (field : List ℕ) (n : ℤ) → WritesDay field n → IsDay n
  pub each : (n : ℤ) → IsDay n → (field : List ℕ) × WritesDay field n
  pub one : (a b : List ℕ) (n : ℤ) → WritesDay a n → WritesDay b n → a ≡ b

-- rows that begin with a word, of any lengths, read back from their text as they were written
abbrev pub WrittenRowsReadBack : Type 0
WrittenRowsReadBack =
    (rows : List (List (List ℕ))) → list_all begins_with_word rows ≡ true → records_of (text_of_rows rows) ≡ rows
