-- Statement. Windows over the periods of a list: the plant and the periods that a window is made from, and its faults.
use Rattle.std.specs.Prelude.{◌≡◌, ℕ, ◌-◌, zero, suc, ℤ, pos, ◌+ℤ◌, Bool, true, false, not, int_lt, nat_lt, List, [], ◌∷◌, filter_map, find, length, map, slice_get, Option, Some, None, if◌then◌else◌}
use Rattle.std.specs.Int.{int_gap}
use Rattle.std.specs.List.{list_any}
use Rattle.std.specs.Ordering.{int_eq}
use Rattle.pb_limits.specs.Limits.{most_periods_of_window}
use Rattle.pb_plan.specs.declared.plant.Plant.{Plant}
use Rattle.pb_plan.specs.declared.plant.PlantArc.{PlantArc}
use Rattle.pb_plan.specs.declared.plant.Service as WindowPlant
use Rattle.pb_plan.specs.declared.plant.Span.{Span}
use Rattle.pb_plan.specs.declared.window.Window.{Window}
use Rattle.pb_plan.specs.Window.{is_too_great, window_shape}
use Rattle.pb_site.specs.declared.declared.Arc.{Arc}
use Rattle.pb_site.specs.declared.declared.Declared.{Declared}
use Rattle.pb_site.specs.declared.declared.Service.{Service}
use Rattle.pb_site.specs.declared.declared.Version.{Version}
use Rattle.pb_site.specs.declared.declared.Version.TheVariants.{One, Two}
use Rattle.pb_site.specs.Row.{is_inventory}
use Rattle.pb_site.specs.Site.{arcs_of, node_names, version_of}
use Rattle.pb_periods.specs.declared.period.Period.{Period}
use Rattle.pb_periods.specs.declared.windows.BetweenFault.{BetweenFault}
use Rattle.pb_periods.specs.declared.windows.BetweenFault.TheVariants.{Order, Gap, TooLong, TooGreat}
use Rattle.pb_periods.specs.Apart.{shares_a_day}

-- ---- the plant

-- the days of service of an arc, as a window uses them; version 1 has none
abbrev pub arc_service : Version → Option Service → Option WindowPlant.Service
arc_service Two (Some service) = Some (record { since = service.since; until = service.until })
arc_service version service = None

-- an arc, as a window uses it
abbrev pub window_arc : Version → Arc → PlantArc
window_arc version arc = record {
  from = arc.from;
  to = arc.to;
  is_tank = is_inventory arc.kind;
  service = arc_service version arc.service;
}

-- in version 1 each unit and tank is a node of the graph of a period, even one that no stream joins
abbrev pub keeps_idle_nodes : Version → Bool
keeps_idle_nodes One = true
keeps_idle_nodes Two = false

-- the declared plant, as a window uses it: its nodes except the environment, and its arcs, in order of declaration
unfoldable pub window_plant : List Declared → Plant
window_plant declared = record {
  nodes = length (node_names declared) - 1;
  arcs = map (window_arc (version_of declared)) (arcs_of declared);
  keeps_idle = keeps_idle_nodes (version_of declared);
}

-- ---- the periods

-- this many days in a row, beginning with a given one
abbrev pub days_in_row : ℤ → ℕ → List ℤ
days_in_row day zero = []
days_in_row day (suc n) = day ∷ days_in_row (day +ℤ pos 1) n

-- the days from `first` to `last`, both included; none if `last` comes first
abbrev pub days_between : ℤ → ℤ → List ℤ
days_between first last = days_in_row first (int_gap first (last +ℤ pos 1))

-- a period begins on a day
abbrev pub begins_on : ℤ → Period → Bool
begins_on day period = int_eq day period.first

-- some day from the first day of one period to the last day of another isn't in any period
unfoldable pub has_gap : List Period → Period → Period → Bool
has_gap periods first last = list_any (λ day. not (list_any (shares_a_day day day) periods)) (days_between first.first last.last)

-- The periods from one to another, in order of days: those that begin on a day from the first day of `first` to the first day of
-- `last`.
unfoldable pub periods_between : List Period → Period → Period → List Period
periods_between periods first last =
    filter_map (λ day. find (begins_on day) periods) (days_between first.first last.first)

-- their names
abbrev pub names_of_periods : List Period → List (List ℕ)
names_of_periods periods = map (λ (period : Period). period.name) periods

-- ---- the window

-- a period, as a window uses it: without its name and whether it is closed
abbrev pub span_of_period : Period → Span
span_of_period period = record { first = period.first; last = period.last }

-- the nodes and streams of these periods at once
abbrev pub window_over : List Declared → List Period → Window
window_over declared periods = window_shape (window_plant declared) (map span_of_period periods)

-- ---- its faults

-- TooGreat: a window over these periods would have more nodes or streams than a graph may have. Before that, TooLong: there are more
-- periods than a window may have.
unfoldable pub fault_over : List Declared → List Period → Option BetweenFault
fault_over declared periods =
    if nat_lt most_periods_of_window (length periods) then Some TooLong
    else if is_too_great (window_over declared periods) then Some TooGreat
    else None

-- The first fault of a window from one of these periods to another. Order: the second begins before the first. Gap: some day from the
-- first day of the first to the last day of the second isn't in any period. Then come the faults of a window over the periods between
-- them.
unfoldable pub fault_between : List Declared → List Period → Period → Period → Option BetweenFault
fault_between declared periods first last =
    if int_lt last.first first.first then Some Order
    else if has_gap periods first last then Some Gap
    else fault_over declared (periods_between periods first last)

-- these are the places of the periods from one to another, between which there is no gap
pub record ArePlacesOf (periods : List Period) (first last : Period) (places : List ℕ) : Type 0 where
  pub no_gap : has_gap periods first last ≡ false
  pub they_are : map (slice_get periods) places ≡ map Some (periods_between periods first last)
