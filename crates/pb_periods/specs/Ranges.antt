-- Statement. What holds for each period of a book: its days are in the calendar and in order, and there are at most as many as are
-- allowed.
use Rattle.std.specs.Prelude.{pos, ◌-ℤ◌, ◌≤ℤ◌, ◌<ℤ◌}
use Rattle.pb_rows.specs.Date.{IsDay}
use Rattle.pb_limits.specs.Limits.{most_days_of_period}
use Rattle.pb_periods.specs.declared.period.Period.{Period}

-- a period has at least one day, and at most as many as are allowed
pub record IsPeriod (period : Period) : Type 0 where
  pub begins : IsDay period.first
  pub ends : IsDay period.last
  pub rises : period.first ≤ℤ period.last
  pub few : (period.last -ℤ period.first) <ℤ pos most_days_of_period
