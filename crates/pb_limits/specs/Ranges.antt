-- Statement. The ranges of the numbers of rows.
use Rattle.std.specs.Prelude.{◌≤◌, ℤ, pos, ◌≤ℤ◌, unsigned_abs}
use Rattle.pb_limits.specs.Limits.{most_level, most_volume, most_density, most_grams, most_row_variance, most_critical}

-- grams, either way
abbrev pub IsGrams : ℤ → Type 0
IsGrams grams = unsigned_abs grams ≤ most_grams

-- a level of a tank, in millimetres
abbrev pub IsLevel : ℤ → Type 0
IsLevel mm = (pos 0 ≤ℤ mm) × (mm ≤ℤ pos most_level)

-- a volume of a strapping table, in millilitres
abbrev pub IsVolume : ℤ → Type 0
IsVolume ml = (pos 0 ≤ℤ ml) × (ml ≤ℤ pos most_volume)

-- a density, in grams per cubic metre
abbrev pub IsDensity : ℤ → Type 0
IsDensity density = (pos 1 ≤ℤ density) × (density ≤ℤ pos most_density)

-- the variance of a fact, in squared grams
abbrev pub IsVariance : ℤ → Type 0
IsVariance variance = (pos 0 ≤ℤ variance) × (variance ≤ℤ pos most_row_variance)

-- the variance that a measured stream has in addition to those of its facts, in squared grams
abbrev pub IsBaseVariance : ℤ → Type 0
IsBaseVariance variance = (pos 1 ≤ℤ variance) × (variance ≤ℤ pos most_row_variance)

-- a critical value, in thousandths
abbrev pub IsCriticalValue : ℤ → Type 0
IsCriticalValue value = (pos 0 ≤ℤ value) × (value ≤ℤ pos most_critical)
