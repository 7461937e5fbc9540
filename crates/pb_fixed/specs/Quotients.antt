-- Statement. Directed quotients of whole numbers. The divisor is above 0 throughout.
-- Floor and ceiling: Graham, Knuth and Patashnik, Concrete Mathematics, chapter 3.
use Rattle.std.specs.Prelude.{ℤ, pos, neg_ℤ, ◌+ℤ◌, ◌*ℤ◌, ◌≤ℤ◌, ◌<ℤ◌}
use Rattle.std.specs.Int.{int_div_euclid}

-- q is n over d, rounded down: q is at most n/d, and q + 1 is above it
pub record IsFloor (n d q : ℤ) : Type 0 where
  pub below : (q *ℤ d) ≤ℤ n
  pub next : n <ℤ ((q *ℤ d) +ℤ d)

-- q is n over d, rounded up: q is at least n/d, and q - 1 is below it
pub record IsCeiling (n d q : ℤ) : Type 0 where
  pub above : n ≤ℤ (q *ℤ d)
  pub last : (q *ℤ d) <ℤ (n +ℤ d)

-- q is the greatest whole number not above n/d + 1/2: the nearest to n/d, or the upper of two that are equally near
abbrev pub IsNearest : ℤ → ℤ → ℤ → Type 0
IsNearest n d q = IsFloor ((pos 2 *ℤ n) +ℤ d) (pos 2 *ℤ d) q

-- n over d, rounded down
abbrev pub floor_div : ℤ → ℤ → ℤ
floor_div n d = int_div_euclid n d

-- n over d, rounded up
abbrev pub ceil_div : ℤ → ℤ → ℤ
ceil_div n d = neg_ℤ (floor_div (neg_ℤ n) d)

-- n over d, rounded to the nearest, and up if two are equally near
abbrev pub nearest_div : ℤ → ℤ → ℤ
nearest_div n d = floor_div ((pos 2 *ℤ n) +ℤ d) (pos 2 *ℤ d)
