-- Inside. What the book says about a window, as the code holds it.
use Rattle.std.specs.Prelude.{◌≡◌, ℕ, ◌<◌, ◌≤◌, List, length, slice_get, All, Some}
use Rattle.pb_limits.specs.Limits.{most_periods_of_window}
use Rattle.pb_plan.specs.declared.window.Window.{Window}
use Rattle.pb_plan.specs.Codes.{AreWindowNames}
use Rattle.pb_plan.specs.Places.{HaveNames}
use Rattle.pb_plan.specs.Window.{IsWindow}
use Rattle.pb_site.specs.Site.{names_of}
use Rattle.pb_periods.specs.declared.period.Period.{Period}
use Rattle.pb_kinds.specs.declared.rows.StoredRow.{StoredRow}
use Rattle.pb_book.specs.Rows.{declared_of, periods_of}
use Rattle.pb_periods.specs.Windows.{names_of_periods, periods_between}
use Rattle.pb_book.specs.Windows.{window_between}
use Rattle.pb_period.specs.WindowGraph.{periods_at}

-- These are the places of the periods from the period at one place to the period at another, and this is their window.
pub record IsWindowAt (rows : List StoredRow) (first last : ℕ) (places : List ℕ) (window : Window) : Type 0 where
  pub one : Period
  pub first_is : slice_get (periods_of rows) first ≡ Some one
  pub other : Period
  pub last_is : slice_get (periods_of rows) last ≡ Some other
  pub periods : periods_at rows places ≡ periods_between (periods_of rows) one other
  pub there : All (λ (i : ℕ). i < length (periods_of rows)) places
  pub many : length places ≡ length (periods_between (periods_of rows) one other)
  pub few : length places ≤ most_periods_of_window
  pub window_is : window ≡ window_between rows one other
  pub form : IsWindow window
  pub codes : AreWindowNames window
  pub named : HaveNames (names_of (declared_of rows)) (names_of_periods (periods_at rows places)) window
