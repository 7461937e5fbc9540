-- Statement. Block floating point: one power of two for a list of numbers, so that their squares can
-- be added in few bits (Wilkinson, Rounding Errors in Algebraic Processes, chapter 1).
use Rattle.std.specs.Prelude.{ℕ, ◌+◌, ◌*◌, ◌^◌, ◌≤◌, Bool, ℤ, pos, ◌*ℤ◌, ◌≤ℤ◌, int_le, List, All, unsigned_abs}
use Rattle.std.specs.List.{list_all}
use Rattle.pb_fixed.specs.Sums.{sum_over}
use Rattle.pb_fixed.specs.Quotients.{ceil_div}
use Rattle.pb_fixed.specs.Search.{least_upto}

-- a number that a block may hold
abbrev pub IsBlockItem : ℤ → Type 0
IsBlockItem a = (pos 0 ≤ℤ a) × (a ≤ℤ pos (2 ^ 89))

-- every item is at most 2 ^ (57 + h)
abbrev pub FitBlocks : ℕ → List ℤ → Type 0
FitBlocks h items = All (λ a. a ≤ℤ pos (2 ^ (57 + h))) items

-- h is the least number with every item at most 2 ^ (57 + h)
pub record IsBlockExponent (items : List ℤ) (h : ℕ) : Type 0 where
  pub fit : FitBlocks h items
  pub least : (k : ℕ) → FitBlocks k items → h ≤ k

abbrev pub fit_blocks : List ℤ → ℕ → Bool
fit_blocks items h = list_all (λ a. int_le a (pos (2 ^ (57 + h)))) items

-- the least number h with every item at most 2 ^ (57 + h), found by a search up to the sum of the items, which is far enough
abbrev pub block_exponent_of : List ℤ → ℕ
block_exponent_of items = least_upto (fit_blocks items) (unsigned_abs (sum_over (λ a. pos (unsigned_abs a)) items))

-- an item in blocks of 2 ^ h, rounded up
abbrev pub blocks_of : ℕ → ℤ → ℤ
blocks_of h a = ceil_div a (pos (2 ^ h))

-- the sum of the squares of the items in blocks of 2 ^ h
abbrev pub block_squares_of : List ℤ → ℕ → ℤ
block_squares_of items h = sum_over (λ a. blocks_of h a *ℤ blocks_of h a) items

-- the half width of a bound in grams, rounded up: a standard deviation in units of 2 ^ -20 gram times a gap of g * 2 ^ h in units
-- of 2 ^ -20 standard deviation
abbrev pub half_width_of : ℤ → ℕ → ℕ → ℤ
half_width_of root g h = ceil_div (root *ℤ pos (g * 2 ^ h)) (pos (2 ^ 40))
