-- Statement. Periods that share neither a name nor a day.
use Rattle.std.specs.Prelude.{◌≡◌, ℕ, ℤ, int_le, Bool, false, ◌&&◌, List, AllPairs}
use Rattle.pb_rows.specs.Name.{same_name}
use Rattle.pb_periods.specs.declared.period.Period.{Period}

-- a period has this name
abbrev pub is_named : List ℕ → Period → Bool
is_named name period = same_name name period.name

-- the period has a day from `first` to `last`
abbrev pub shares_a_day : ℤ → ℤ → Period → Bool
shares_a_day first last period = int_le first period.last && int_le period.first last

-- two periods have different names and no day in common
pub record IsApartFrom (earlier later : Period) : Type 0 where
  pub names : is_named later.name earlier ≡ false
  pub days : shares_a_day later.first later.last earlier ≡ false

-- no two periods share a name or a day
abbrev pub AreApart : List Period → Type 0
AreApart periods = AllPairs IsApartFrom periods
