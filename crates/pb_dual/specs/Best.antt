-- Statement. The best of the whole numbers in an interval, according to a value of each.
use Rattle.std.specs.Prelude.{ℕ, zero, suc, ℤ, pos, ◌+ℤ◌, ◌-ℤ◌, ◌≤ℤ◌, ◌<ℤ◌, int_lt, unsigned_abs, if◌then◌else◌}

-- the best of the candidates from lo to lo + n: each in turn takes the place of the best before it if its value is greater
abbrev pub best_upto : (ℤ → ℤ) → ℤ → ℕ → ℤ
best_upto value lo zero = lo
best_upto value lo (suc n) =
    if int_lt (value (best_upto value lo n)) (value (lo +ℤ pos (suc n))) then lo +ℤ pos (suc n) else best_upto value lo n

-- the best of the candidates from lo to hi
abbrev pub best : (ℤ → ℤ) → ℤ → ℤ → ℤ
best value lo hi = best_upto value lo (unsigned_abs (hi -ℤ lo))

-- c is the least candidate with the greatest value
pub record IsBest (value : ℤ → ℤ) (lo hi c : ℤ) : Type 0 where
  pub from : lo ≤ℤ c
  pub to : c ≤ℤ hi
  pub most : (d : ℤ) → lo ≤ℤ d → d ≤ℤ hi → value d ≤ℤ value c
  pub least : (d : ℤ) → lo ≤ℤ d → d <ℤ c → value d <ℤ value c

-- c, or the end of the interval from lo to hi that is nearest to it
abbrev pub clamped : ℤ → ℤ → ℤ → ℤ
clamped lo hi c = if int_lt c lo then lo else (if int_lt hi c then hi else c)
