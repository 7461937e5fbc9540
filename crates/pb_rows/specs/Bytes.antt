-- Statement. The bytes that names, numbers and dates are written with.
use Rattle.std.specs.Prelude.{ℕ}

-- `-`: a minus sign, and the separator between the parts of a date
abbrev pub dash : ℕ
dash = 45

-- `.`
abbrev pub dot : ℕ
dot = 46

-- `_`
abbrev pub underscore : ℕ
underscore = 95

-- `0`, the first of the digits
abbrev pub zero_digit : ℕ
zero_digit = 48
