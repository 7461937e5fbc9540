-- Statement. Shares of a total that is spread evenly over days.
use Rattle.std.specs.Prelude.{◌≡◌, ◌<◌, ◌*ℤ◌, ◌+ℤ◌, ◌-ℤ◌, ℕ, ℤ, pos}
use Rattle.std.specs.Int.{int_div_euclid}

-- the part of a total, spread over this many days, that falls on the first of them, rounded down
abbrev pub up_to : ℤ → ℕ → ℕ → ℤ
up_to total days first = int_div_euclid (total *ℤ pos first) (pos days)

-- what falls on the days after the first `before` up to the first `until`
abbrev pub share_of : ℤ → ℕ → ℕ → ℕ → ℤ
share_of total days before until = up_to total days until -ℤ up_to total days before

-- shares of neighbouring days add up, and all days together have the whole total
pub record SharesLaw : Type 0 where
  pub neighbours : (total : ℤ) (days a b c : ℕ)
      → share_of total days a b +ℤ share_of total days b c ≡ share_of total days a c
  pub whole : (total : ℤ) (days : ℕ) → 0 < days → share_of total days 0 days ≡ total
