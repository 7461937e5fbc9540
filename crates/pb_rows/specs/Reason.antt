-- Statement. The form of a reason.
use Rattle.std.specs.Prelude.{◌≡◌, nat_eq, ℕ, List, length, Bool, ◌==◌, ◌&&◌, not, nat_le}
use Rattle.std.specs.Cmp.Lexicographic.{pointwise}
use Rattle.std.specs.List.{list_all}
use Rattle.pb_rows.specs.declared.reason.TheConstants.{MOST_REASON}

-- the most bytes that a reason can have
abbrev pub most_reason : ℕ
most_reason = 80

-- a byte from the space to `~`
abbrev pub is_reason_byte : ℕ → Bool
is_reason_byte byte = nat_le 32 byte && nat_le byte 126

-- 1 to 80 such bytes
abbrev pub is_reason : List ℕ → Bool
is_reason field = not (length field == 0) && nat_le (length field) most_reason && list_all is_reason_byte field

-- whether two reasons are the same, byte for byte
abbrev pub same_reason : List ℕ → List ℕ → Bool
same_reason a b = pointwise nat_eq a b

-- the constant of the code is the number defined here
abbrev pub IsMostReason : Type 0
IsMostReason = MOST_REASON ≡ most_reason
