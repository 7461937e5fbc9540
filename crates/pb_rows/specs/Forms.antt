-- Inside. Parts of the forms of fields.
use Rattle.std.specs.Prelude.{ℕ, ◌==◌, ◌&&◌, Bool, List, length, slice_index, not, nat_le, nat_lt}
use Rattle.std.specs.Char.{is_ascii_digit}
use Rattle.std.specs.List.{list_all}
use Rattle.pb_rows.specs.Bytes.{dash, zero_digit}
use Rattle.pb_rows.specs.Reason.{most_reason}

-- 1 to 32 bytes
abbrev pub has_name_length : List ℕ → Bool
has_name_length field = not (length field == 0) && nat_le (length field) 32

-- 1 to 80 bytes
abbrev pub has_reason_length : List ℕ → Bool
has_reason_length field = not (length field == 0) && nat_le (length field) most_reason

-- decimal digits, one or more
abbrev pub are_digits : List ℕ → Bool
are_digits field = not (length field == 0) && list_all is_ascii_digit field

-- a zero in front of other digits
abbrev pub is_padded : List ℕ → Bool
is_padded field = nat_lt 1 (length field) && (slice_index field 0 == zero_digit)

-- ten bytes, with a dash after the year and after the month
abbrev pub is_dashed : List ℕ → Bool
is_dashed field = (length field == 10) && (slice_index field 4 == dash) && (slice_index field 7 == dash)
