-- Statement. Civil dates in the calendar of `jiff`, and the fields that write them.
use Rattle.std.specs.Prelude.{◌+◌, ◌*◌, ◌-◌, ◌/◌, ◌%◌, ◌==◌, ◌&&◌, ◌++◌, ◌≤ℤ◌, ℕ, ℤ, pos, neg_ℤ, int_le, unsigned_abs, List, [], ◌∷◌, length, slice_index, Bool, Option, Some, None, if◌then◌else◌, codes}
use Rattle.std.specs.Char.{is_ascii_digit}
use Rattle.std.specs.Int.{IsInRange}
use Rattle.jiff_core.specs.Calendar.{IsCivilDate, days_from_civil, days_in_month}
use Rattle.pb_rows.specs.Bytes.{dash, zero_digit}

-- the first year of the dates that fields write
abbrev pub first_year : ℕ
first_year = 1900

-- the last year of the dates that fields write
abbrev pub last_year : ℕ
last_year = 2199

-- a date of the calendar, in one of these years
abbrev pub IsDate : ℕ → ℕ → ℕ → Type 0
IsDate year month day = IsInRange first_year last_year year × IsCivilDate (pos year) month day

-- a day number of these years, counted from 1970-01-01: 1900-01-01 to 2199-12-31
abbrev pub IsDay : ℤ → Type 0
IsDay number = (neg_ℤ (pos 25567) ≤ℤ number) × (number ≤ℤ pos 84005)

-- the two digits of a number below 100
abbrev pub two_digits : ℕ → List ℕ
two_digits n = (zero_digit + n / 10) ∷ (zero_digit + n % 10) ∷ []

-- the text `YYYY-MM-DD` of a date
abbrev pub date_text : ℕ → ℕ → ℕ → List ℕ
date_text year month day =
    two_digits (year / 100) ++ (two_digits (year % 100) ++ (codes "-" ++ (two_digits month ++ (codes "-" ++ two_digits day))))

-- whether the calendar has this day, in one of these years
abbrev pub is_day : ℤ → ℤ → ℤ → Bool
is_day year month day =
    int_le (pos first_year) year && int_le year (pos last_year) && int_le (pos 1) month && int_le month (pos 12)
    && int_le (pos 1) day && int_le day (pos (days_in_month year (unsigned_abs month)))

-- the day's number, counted from 1970-01-01
abbrev pub day_number : ℤ → ℤ → ℤ → Option ℤ
day_number year month day =
    if is_day year month day then Some (days_from_civil year (unsigned_abs month) (unsigned_abs day)) else None

-- the number that two digits write
abbrev pub two_digits_value : ℕ → ℕ → Option ℕ
two_digits_value tens ones =
    if is_ascii_digit tens && is_ascii_digit ones then Some ((tens - zero_digit) * 10 + (ones - zero_digit)) else None

-- the number that the two digits at a place write
abbrev pub two_digits_at : List ℕ → ℕ → Option ℕ
two_digits_at field i = two_digits_value (slice_index field i) (slice_index field (i + 1))

-- the day given by a century, a year of that century, a month and a day of the month
abbrev pub day_of_parts : Option ℕ → Option ℕ → Option ℕ → Option ℕ → Option ℤ
day_of_parts (Some century) (Some year) (Some month) (Some day) = day_number (pos (century * 100 + year)) (pos month) (pos day)
day_of_parts _ _ _ _ = None

-- the day that a field of the form `YYYY-MM-DD` writes: ten bytes, with a dash after the year and after the month
abbrev pub day_of : List ℕ → Option ℤ
day_of field =
    if (length field == 10) && (slice_index field 4 == dash) && (slice_index field 7 == dash)
    then day_of_parts (two_digits_at field 0) (two_digits_at field 2) (two_digits_at field 5) (two_digits_at field 8)
    else None
