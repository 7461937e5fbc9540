-- Inside. What a list of periods keeps beside them, so that look-ups don't walk through them.
use Rattle.std.specs.Prelude.{◌≡◌, ℕ, ◌<◌, ◌≤◌, ℤ, ◌≤ℤ◌, Bool, true, List, length, map, slice_index_or, All, Option, Some, None, if◌then◌else◌, IsSome}
use Rattle.std.specs.Ordering.{int_cmp, int_eq}
use Rattle.std.specs.BTreeMap.{BTreeMap, get}
use Rattle.pb_limits.specs.Limits.{most_periods}
use Rattle.pb_periods.specs.declared.period.Period.{Period}
use Rattle.pb_periods.specs.Apart.{AreApart}
use Rattle.pb_periods.specs.Ranges.{IsPeriod}
use Rattle.pb_periods.specs.Touching.{some_closed}

-- the map has the places of the periods that pass a test, by their first days
pub record AreBegun (chosen : Period → Bool) (periods : List Period) (begins : BTreeMap ℤ ℕ) : Type 0 where
  pub there : (k : ℕ) (d : Period) → k < length periods → chosen (slice_index_or periods k d) ≡ true
      → get int_cmp begins (slice_index_or periods k d).first ≡ Some k
  pub back : (day : ℤ) (place : ℕ) (d : Period) → get int_cmp begins day ≡ Some place
      → (place < length periods) × ((slice_index_or periods place d).first ≡ day)
      × (chosen (slice_index_or periods place d) ≡ true)

-- these are the names of the periods, in order, and the places of the periods and of the closed periods by their first days; no two
-- periods share a name or a day, and the number of days of each and the number of periods are within the limits
pub record ArePeriods (periods : List Period) (names : List (List ℕ)) (begins closes : BTreeMap ℤ ℕ) (sealed : Bool) : Type 0 where
  pub named : names ≡ map (λ period. period.name) periods
  pub all : AreBegun (λ period. true) periods begins
  pub closed : AreBegun (λ period. period.closed) periods closes
  pub sealing : sealed ≡ some_closed periods
  pub days : All IsPeriod periods
  pub apart : AreApart periods
  pub few : length periods ≤ most_periods

-- the last day with a place among those up to a given day
pub record IsLastBy (begins : BTreeMap ℤ ℕ) (day key : ℤ) (place : ℕ) : Type 0 where
  pub early : key ≤ℤ day
  pub here : get int_cmp begins key ≡ Some place
  pub last : (other : ℤ) → other ≤ℤ day → IsSome (get int_cmp begins other) → other ≤ℤ key

-- the place of the last day that has one, among the days up to a given day
abbrev pub FindsLast : BTreeMap ℤ ℕ → ℤ → Option ℕ → Type 0
FindsLast begins day (Some place) = (key : ℤ) × IsLastBy begins day key place
FindsLast begins day None = (other : ℤ) → other ≤ℤ day → get int_cmp begins other ≡ None

-- one more day has a place, and the others keep theirs
abbrev pub HasBegin : BTreeMap ℤ ℕ → BTreeMap ℤ ℕ → ℤ → ℕ → Type 0
HasBegin old new first place =
    (day : ℤ) → get int_cmp new day ≡ (if int_eq first day then Some place else get int_cmp old day)

-- each day has the place that it had
abbrev pub SameBegins : BTreeMap ℤ ℕ → BTreeMap ℤ ℕ → Type 0
SameBegins old new = (day : ℤ) → get int_cmp new day ≡ get int_cmp old day
