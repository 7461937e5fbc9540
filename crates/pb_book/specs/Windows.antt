-- Statement. Windows over the periods of a book: the plant and the periods that a window is made from, and when it is refused.
use Rattle.std.specs.Prelude.{◌≡◌, ℕ, ◌≤◌, List, All, length, map, slice_get, Option, Some, None, Ok}
use Rattle.std.specs.Option.{option_map}
use Rattle.pb_limits.specs.Limits.{most_periods_of_window}
use Rattle.pb_plan.specs.declared.plant.Plant.{Plant}
use Rattle.pb_plan.specs.declared.window.Window.{Window}
use Rattle.pb_plan.specs.Plant.{IsPlant, IsSpan}
use Rattle.pb_plan.specs.Window.{IsWindow, window_of}
use Rattle.pb_plan.specs.Codes.{AreWindowNames}
use Rattle.pb_plan.specs.Places.{HaveNames}
use Rattle.pb_site.specs.Site.{names_of}
use Rattle.pb_periods.specs.declared.period.Period.{Period}
use Rattle.pb_periods.specs.declared.windows.BetweenFault.{BetweenFault}
use Rattle.pb_periods.specs.declared.windows.BetweenFault.TheVariants as between
use Rattle.pb_periods.specs.Windows.{fault_between, names_of_periods, periods_between, span_of_period, window_over, window_plant}
use Rattle.pb_book.specs.declared.answer.Refused.{Refused}
use Rattle.pb_book.specs.declared.answer.Refused.TheVariants.{Unknown, Order, Mismatch, Range, Full}
use Rattle.pb_kinds.specs.declared.rows.StoredRow.{StoredRow}
use Rattle.pb_book.specs.Accepted.{AreAccepted}
use Rattle.pb_book.specs.Rows.{declared_of, periods_of}

-- the declared plant, as a window uses it
abbrev pub plant_of : List StoredRow → Plant
plant_of rows = window_plant (declared_of rows)

-- The window from one period to another.
unfoldable pub window_between : List StoredRow → Period → Period → Window
window_between rows first last =
    window_over (declared_of rows) (periods_between (periods_of rows) first last)

-- ---- when it is refused

-- the cause to refuse a window for a fault
abbrev pub cause_between : BetweenFault → Refused
cause_between between.Order = Order
cause_between between.Gap = Mismatch
cause_between between.TooLong = Range
cause_between between.TooGreat = Full

-- the first cause to refuse a window from one of the periods to another
abbrev pub window_refusal : List StoredRow → Period → Period → Option Refused
window_refusal rows first last =
    option_map cause_between (fault_between (declared_of rows) (periods_of rows) first last)

-- the same for two optional periods; Unknown: one of them is missing
abbrev pub refusal_of_ends : List StoredRow → Option Period → Option Period → Option Refused
refusal_of_ends rows (Some first) (Some last) = window_refusal rows first last
refusal_of_ends rows first last = Some Unknown

-- the first cause to refuse a window from the period at one place to the period at another
abbrev pub refusal_of_window : List StoredRow → ℕ → ℕ → Option Refused
refusal_of_window rows first last =
    refusal_of_ends rows (slice_get (periods_of rows) first) (slice_get (periods_of rows) last)

-- ---- what a book says about it

-- there are periods at these places, and there is no cause to refuse the window from the first to the second
pub record IsWindowAsked (rows : List StoredRow) (first last : ℕ) : Type 0 where
  pub one : Period
  pub first_is : slice_get (periods_of rows) first ≡ Some one
  pub other : Period
  pub last_is : slice_get (periods_of rows) last ≡ Some other
  pub no_cause : window_refusal rows one other ≡ None

-- a property holds for the periods at these places
abbrev pub OfEnds : List StoredRow → ℕ → ℕ → (Period → Period → Type 0) → Type 0
OfEnds rows first last P =
    (one other : Period) → slice_get (periods_of rows) first ≡ Some one
    → slice_get (periods_of rows) last ≡ Some other → P one other

-- these are the places of the periods from the period at one place to the period at another, in order of days
abbrev pub ArePlacesBetween : List StoredRow → ℕ → ℕ → List ℕ → Type 0
ArePlacesBetween rows first last places =
    OfEnds rows first last (λ one other.
    map (slice_get (periods_of rows)) places ≡ map Some (periods_between (periods_of rows) one other))

-- this is the window from the period at one place to the period at another
abbrev pub IsWindowBetween : List StoredRow → ℕ → ℕ → Window → Type 0
IsWindowBetween rows first last window =
    OfEnds rows first last (λ one other. window ≡ window_between rows one other)

-- the plant and the periods between these two have names for each node and stream of a window
abbrev pub HavePlaceNames : List StoredRow → ℕ → ℕ → Window → Type 0
HavePlaceNames rows first last window =
    OfEnds rows first last (λ one other.
    HaveNames (names_of (declared_of rows)) (names_of_periods (periods_between (periods_of rows) one other)) window)

-- What holds for the window between two periods of accepted rows: it is made from a plant and from at most as many periods as a
-- window may have, each of its streams joins two of its nodes, the names of its nodes and streams are names, no two of which are
-- the same, and each node and stream stands for a node or arc of the plant in one of the periods.
pub record IsBookWindow (rows : List StoredRow) (first last : Period) : Type 0 where
  pub plant : IsPlant (plant_of rows)
  pub spans : All IsSpan (map span_of_period (periods_between (periods_of rows) first last))
  pub few : length (periods_between (periods_of rows) first last) ≤ most_periods_of_window
  pub made : window_of (plant_of rows) (map span_of_period (periods_between (periods_of rows) first last))
      ≡ Ok (window_between rows first last)
  pub form : IsWindow (window_between rows first last)
  pub names : AreWindowNames (window_between rows first last)
  pub there : HaveNames (names_of (declared_of rows))
      (names_of_periods (periods_between (periods_of rows) first last)) (window_between rows first last)

-- This holds for each window that there is no cause to refuse.
abbrev pub BookWindowsLaw : Type 0
BookWindowsLaw =
    (rows : List StoredRow) (first last : Period) → AreAccepted rows
    → window_refusal rows first last ≡ None → IsBookWindow rows first last
