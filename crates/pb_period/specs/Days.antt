-- Statement. The days of a period.
use Rattle.std.specs.Prelude.{ℕ, ℤ, pos, ◌+ℤ◌, ◌-ℤ◌, ◌≤ℤ◌, ◌<ℤ◌}
use Rattle.std.specs.Int.{int_gap}
use Rattle.pb_rows.specs.Date.{IsDay}
use Rattle.pb_limits.specs.Limits.{most_days_of_period}
use Rattle.pb_periods.specs.declared.period.Period.{Period}
use Rattle.pb_period.specs.declared.days.Days.{Days}

-- the days of a period, without its name and whether it is closed
abbrev pub days_of : Period → Days
days_of period = record { first = period.first; last = period.last }

-- the number of days from `first` to `last`, both included; 0 if `last` comes first
abbrev pub day_count : ℤ → ℤ → ℕ
day_count first last = int_gap first (last +ℤ pos 1)

-- the days are as those of a period
pub record AreDays (days : Days) : Type 0 where
  pub begins : IsDay days.first
  pub ends : IsDay days.last
  pub rises : days.first ≤ℤ days.last
  pub few : (days.last -ℤ days.first) <ℤ pos most_days_of_period
