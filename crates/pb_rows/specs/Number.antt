-- Statement. Whole numbers as fields write them.
use Rattle.std.specs.Prelude.{◌+◌, ◌==◌, ◌&&◌, ℕ, suc, ℤ, pos, negsuc, neg_ℤ, int_le, List, [], ◌∷◌, length, map, slice_index, Bool, false, not, nat_lt, Option, Some, None, option_and_then, if◌then◌else◌}
use Rattle.std.specs.Char.{is_ascii_digit}
use Rattle.std.specs.List.{list_all}
use Rattle.std.specs.Int.Digits.{digits_of}
use Rattle.std.specs.Str.Parse.{digits_value}
use Rattle.pb_rows.specs.Bytes.{dash, zero_digit}

-- decimal digits, one or more, without a zero in front of other digits
abbrev pub is_plain : List ℕ → Bool
is_plain field =
    not (length field == 0) && list_all is_ascii_digit field && not (nat_lt 1 (length field) && (slice_index field 0 == zero_digit))

-- the same, with a minus sign only before a number that isn't zero
abbrev pub is_whole : List ℕ → Bool
is_whole [] = false
is_whole (first ∷ rest) = if first == dash then is_plain rest && not (slice_index rest 0 == zero_digit) else is_plain (first ∷ rest)

-- the number that digits write, with or without a minus sign before them
abbrev pub whole_value : List ℕ → ℤ
whole_value [] = pos 0
whole_value (first ∷ rest) = if first == dash then neg_ℤ (pos (digits_value 10 rest)) else pos (digits_value 10 (first ∷ rest))

-- the whole number that a field writes, if it writes one
abbrev pub number : List ℕ → Option ℤ
number field = if is_whole field then Some (whole_value field) else None

-- a number, if it lies from lo to hi, both included
abbrev pub within : ℤ → ℤ → Option ℤ → Option ℤ
within lo hi number = option_and_then (λ z. if int_le lo z && int_le z hi then Some z else None) number

-- the decimal text of a number: its digits, the most significant first; a single zero for 0
unfoldable pub decimal_text : ℕ → List ℕ
decimal_text n = if n == 0 then zero_digit ∷ [] else map (λ digit. zero_digit + digit) (digits_of 10 n)

-- the decimal text of a whole number, with a minus sign before a negative one
abbrev pub whole_text : ℤ → List ℕ
whole_text (pos n) = decimal_text n
whole_text (negsuc n) = dash ∷ decimal_text (suc n)
