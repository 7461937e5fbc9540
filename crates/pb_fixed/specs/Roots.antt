-- Statement. Square roots of whole numbers, rounded down and up (integer square root: Knuth, The
-- Art of Computer Programming, volume 2).
use Rattle.std.specs.Prelude.{ℕ, ◌+◌, ◌*◌, ◌^◌, ◌≤◌, ◌<◌, ℤ, pos, ◌+ℤ◌, ◌*ℤ◌, ◌≤ℤ◌, ◌<ℤ◌, unsigned_abs, nat_le}
use Rattle.pb_fixed.specs.Search.{greatest_upto, least_upto}

-- r is the greatest number whose square is at most n
pub record IsRootFloor (n r : ℕ) : Type 0 where
  pub below : r * r ≤ n
  pub next : n < (r + 1) * (r + 1)

-- r is the least number whose square is at least n
pub record IsRootCeiling (n r : ℕ) : Type 0 where
  pub above : n ≤ r * r
  pub least : (s : ℕ) → n ≤ s * s → r ≤ s

-- r is the square root of v in units of 2 ^ -20, rounded down
pub record IsScaledRoot (v r : ℤ) : Type 0 where
  pub nonneg : pos 0 ≤ℤ r
  pub below : (r *ℤ r) ≤ℤ (v *ℤ pos (2 ^ 40))
  pub next : (v *ℤ pos (2 ^ 40)) <ℤ ((r +ℤ pos 1) *ℤ (r +ℤ pos 1))

-- the greatest number whose square is at most n
abbrev pub root_floor_of : ℕ → ℕ
root_floor_of n = greatest_upto (λ r. nat_le (r * r) n) n

-- the least number whose square is at least n
abbrev pub root_ceil_of : ℕ → ℕ
root_ceil_of n = least_upto (λ r. nat_le n (r * r)) n

-- the square root of v, in units of 2 ^ -20, rounded down
abbrev pub scaled_root_of : ℤ → ℤ
scaled_root_of v = pos (root_floor_of (unsigned_abs v * 2 ^ 40))
