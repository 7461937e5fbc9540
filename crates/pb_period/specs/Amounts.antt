-- Inside. How large amounts are, and how they grow.
use Rattle.std.specs.Prelude.{ℕ, ◌*◌, ◌^◌, ◌≤◌, pos, ◌≤ℤ◌, ◌+ℤ◌, unsigned_abs, Option, Some, None}
use Rattle.pb_period.specs.declared.amount.Amount.{Amount}

-- the amount of this many facts: for each, at most 2 * 10^13 grams either way, and a variance from 0 to 10^19 squared grams
pub record IsAmount (facts : ℕ) (amount : Amount) : Type 0 where
  pub grams : unsigned_abs amount.grams ≤ facts * (2 * 10 ^ 13)
  pub from : pos 0 ≤ℤ amount.variance
  pub to : amount.variance ≤ℤ pos (facts * 10 ^ 19)

-- an amount well within 128 bits
pub record IsSmall (amount : Amount) : Type 0 where
  pub grams : unsigned_abs amount.grams ≤ 10 ^ 30
  pub from : pos 0 ≤ℤ amount.variance
  pub to : amount.variance ≤ℤ pos (10 ^ 30)

-- the sum of two amounts
abbrev pub sum_of_two : Amount → Amount → Amount
sum_of_two one other = record { grams = one.grams +ℤ other.grams; variance = one.variance +ℤ other.variance }

-- a total, with a further amount added if there is one
abbrev pub with_more : Amount → Option Amount → Amount
with_more total None = total
with_more total (Some more) = sum_of_two total more

-- from 1 to 366 days, and two counts of these days, in order
pub record IsSpan (days before until : ℕ) : Type 0 where
  pub some : 1 ≤ days
  pub few : days ≤ 366
  pub order : before ≤ until
  pub within : until ≤ days
