-- Statement. The form of a name.
use Rattle.std.specs.Prelude.{nat_eq, ℕ, List, length, Bool, ◌==◌, ◌&&◌, ◌||◌, not, nat_le}
use Rattle.std.specs.Char.{is_ascii_alphanumeric}
use Rattle.std.specs.Cmp.Lexicographic.{pointwise}
use Rattle.std.specs.List.{list_all}
use Rattle.pb_rows.specs.Bytes.{dash, dot, underscore}

-- an ASCII letter, a digit, `_`, `-` or `.`
abbrev pub is_name_byte : ℕ → Bool
is_name_byte byte = is_ascii_alphanumeric byte || (byte == underscore) || (byte == dash) || (byte == dot)

-- 1 to 32 such bytes
abbrev pub is_name : List ℕ → Bool
is_name field = not (length field == 0) && nat_le (length field) 32 && list_all is_name_byte field

-- whether two names are the same, byte for byte
abbrev pub same_name : List ℕ → List ℕ → Bool
same_name a b = pointwise nat_eq a b
