-- Statement. A period has the same parts of the plant in a window as in its own graph, measured alike, its tanks open and close on the same
-- days, and the contents of a tank before and after it differ by its inventory.
use Rattle.std.specs.Prelude.{◌≡◌, ℕ, ◌-ℤ◌, List, ◌∷◌, map, Option, Some, None}
use Rattle.pb_graph.specs.declared.records.Meas.{Meas}
use Rattle.pb_graph.specs.declared.records.Stream.{Stream}
use Rattle.pb_plan.specs.declared.plant.PlantArc.{PlantArc}
use Rattle.pb_plan.specs.Plant.{NumberedArc, arcs_in, closing_day, nodes_in, opening_day}
use Rattle.pb_site.specs.declared.declared.Arc.{Arc}
use Rattle.pb_site.specs.declared.declared.ArcKind.TheVariants.{Tank}
use Rattle.pb_site.specs.declared.declared.Declared.{Declared}
use Rattle.pb_site.specs.declared.declared.Service.{Service}
use Rattle.pb_site.specs.declared.declared.Version.{Version}
use Rattle.pb_site.specs.declared.declared.Version.TheVariants.{One, Two}
use Rattle.pb_site.specs.OnDays.{arcs_on, nodes_on}
use Rattle.pb_site.specs.Service.{day_of_opening, last_served}
use Rattle.pb_site.specs.Site.{table_of_arc, version_of}
use Rattle.pb_periods.specs.declared.period.Period.{Period}
use Rattle.pb_periods.specs.Windows.{arc_service, span_of_period, window_arc, window_plant}
use Rattle.pb_kinds.specs.declared.rows.StoredRow.{StoredRow}
use Rattle.pb_book.specs.Rows.{declared_of}
use Rattle.pb_period.specs.Days.{days_of}
use Rattle.pb_period.specs.PeriodGraph.{period_graph}
use Rattle.pb_period.specs.WindowGraph.{content_measured, flow_measured}

-- the days of service of an arc, as the graph of a period uses them; version 1 has none
abbrev pub service_used : Version → Option Service → Option Service
service_used One service = None
service_used Two service = service

-- In a window a period has the nodes and arcs of its own graph, and each arc has the same opening and closing days.
pub record HasPartsOfItsOwn (declared : List Declared) (period : Period) : Type 0 where
  pub nodes : nodes_on (version_of declared) declared period.first period.last ≡ 0 ∷ nodes_in (window_plant declared) (span_of_period period)
  pub arcs : map (λ (one : NumberedArc). one.1)
      (arcs_in (window_plant declared).arcs (span_of_period period))
      ≡ map (window_arc (version_of declared)) (arcs_on (version_of declared) declared period.first period.last)
  pub opens : (service : Option Service) → opening_day (arc_service (version_of declared) service) (span_of_period period)
      ≡ day_of_opening (service_used (version_of declared) service) period.first
  pub closes : (service : Option Service) → closing_day (arc_service (version_of declared) service) (span_of_period period)
      ≡ last_served (service_used (version_of declared) service) period.last

-- this holds for each period, whatever is declared
abbrev pub WindowPartsLaw : Type 0
WindowPartsLaw = (declared : List Declared) (period : Period) → HasPartsOfItsOwn declared period

-- In a window a period has the measurements of its own graph: what it measures of the arcs that are in service is what the streams of its
-- graph have, in order.
abbrev pub WindowMeasuresLaw : Type 0
WindowMeasuresLaw =
    (rows : List StoredRow) (period : Period)
    → map (λ (stream : Stream). stream.meas) (period_graph rows (days_of period)).streams
    ≡ map (λ (arc : Arc). flow_measured rows arc period)
    (arcs_on (version_of (declared_of rows)) (declared_of rows) period.first period.last)

-- If there are dips for what a tank holds before a period and after it, these contents differ by what the period measured of its inventory.
abbrev pub ContentsLaw : Type 0
ContentsLaw =
    (rows : List StoredRow) (arc : Arc) (period : Period) (before after inventory : Meas)
    → (let service = service_used (version_of (declared_of rows)) arc.service in
    arc.kind ≡ Tank
    → content_measured rows arc (day_of_opening service period.first) ≡ Some before
    → content_measured rows arc (last_served service period.last) ≡ Some after
    → flow_measured rows arc period ≡ Some inventory
    → inventory.value ≡ after.value -ℤ before.value)
