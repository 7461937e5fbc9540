-- Statement. The periods of a window: all that begin from its first to its last, in order of days, and without a gap.
use Rattle.std.specs.Prelude.{◌≡◌, ◌↔◌, ℤ, ◌≤ℤ◌, ◌<ℤ◌, false, List, AllPairs, Contains}
use Rattle.pb_periods.specs.declared.period.Period.{Period}
use Rattle.pb_periods.specs.Windows.{has_gap, periods_between}
use Rattle.pb_kinds.specs.declared.rows.StoredRow.{StoredRow}
use Rattle.pb_book.specs.Accepted.{AreAccepted}
use Rattle.pb_book.specs.Rows.{periods_of}

-- a period begins between the first days of two periods, or on one of them
pub record BeginsBetween (first last period : Period) : Type 0 where
  pub from : first.first ≤ℤ period.first
  pub to : period.first ≤ℤ last.first

-- a day is one of the days of a period
pub record HasDay (day : ℤ) (period : Period) : Type 0 where
  pub from : period.first ≤ℤ day
  pub to : day ≤ℤ period.last

pub record AreAllBetween (periods : List Period) (first last : Period) : Type 0 where
  -- the periods from one to another are those that begin between their first days
  pub each : (period : Period) → Contains (periods_between periods first last) period ↔ (Contains periods period × BeginsBetween first last period)
  -- they are in order: each ends before those after it begin
  pub order : AllPairs (λ (earlier later : Period). earlier.last <ℤ later.first) (periods_between periods first last)
  -- and if there is no gap, each day from the first day of the one to the last day of the other is in one of them
  pub covered : has_gap periods first last ≡ false → (day : ℤ) → first.first ≤ℤ day → day ≤ℤ last.last
      → (period : Period) × Contains (periods_between periods first last) period × HasDay day period

-- this holds for any two periods of accepted rows
abbrev pub BetweenLaw : Type 0
BetweenLaw =
    (rows : List StoredRow) (first last : Period) → AreAccepted rows → Contains (periods_of rows) first → Contains (periods_of rows) last
    → AreAllBetween (periods_of rows) first last
