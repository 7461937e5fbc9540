-- Statement. What the facts say about the streams of a window, and its graph.
use Rattle.std.specs.Prelude.{ℕ, ◌<◌, ℤ, ◌-◌, List, length, filter_map, find, map, slice_get, option_and_then, option_map, Option, Result}
use Rattle.pb_strap.specs.declared.strap.Point.{Point}
use Rattle.pb_graph.specs.declared.records.Meas.{Meas}
use Rattle.pb_graph.specs.ProcessGraph.{ProcessGraph}
use Rattle.pb_plan.specs.declared.window.Source.{Source}
use Rattle.pb_plan.specs.declared.window.Source.TheVariants.{Content, Flow}
use Rattle.pb_plan.specs.declared.window.Window.{Window}
use Rattle.pb_plan.specs.declared.window.WindowStream.{WindowStream}
use Rattle.pb_plan.specs.Graph.{window_graph}
use Rattle.pb_site.specs.declared.declared.Arc.{Arc}
use Rattle.pb_site.specs.Site.{arcs_of, table_of_arc, version_of}
use Rattle.pb_facts.specs.declared.fact.Fact.{Fact}
use Rattle.pb_facts.specs.Fact.{is_dip_on}
use Rattle.pb_facts.specs.Facts.{live_facts}
use Rattle.pb_periods.specs.declared.period.Period.{Period}
use Rattle.pb_kinds.specs.declared.rows.StoredRow.{StoredRow}
use Rattle.pb_book.specs.Rows.{declared_of, facts_of, periods_of}
use Rattle.pb_period.specs.declared.amount.Amount.{Amount}
use Rattle.pb_period.specs.declared.graph.Assembly.{Assembly}
use Rattle.pb_period.specs.declared.graph.Assembly.TheVariants.{NoMemory, Over}
use Rattle.pb_period.specs.Days.{days_of}
use Rattle.pb_period.specs.Facts.{content_of}
use Rattle.pb_period.specs.Measurement.{measurement}
use Rattle.pb_period.specs.PeriodGraph.{measured_in, within_limits}

-- ---- the periods of a window

-- the periods at these places, in this order
abbrev pub periods_at : List StoredRow → List ℕ → List Period
periods_at rows places = filter_map (slice_get (periods_of rows)) places

-- ---- what is measured of a stream

-- what a period measured of an arc
abbrev pub flow_measured : List StoredRow → Arc → Period → Option Meas
flow_measured rows arc period = measured_in (version_of (declared_of rows)) (declared_of rows) (live_facts (facts_of rows)) (days_of period) arc

-- what a tank with this table holds at the end of a day, if there is a dip on this day
abbrev pub held_at : List Fact → List ℕ → ℤ → List Point → Option Amount
held_at facts tank day points = option_map (content_of points) (find (is_dip_on tank day) facts)

-- the measurement of what a tank holds at the end of a day: the grams of the live dip of that day, and the sum of the base variance
-- and the dip's; a stream has no table, and no content
abbrev pub content_measured : List StoredRow → Arc → ℤ → Option Meas
content_measured rows arc day =
    option_map (measurement arc.base) (option_and_then (held_at (live_facts (facts_of rows)) arc.name day) (table_of_arc (declared_of rows) arc))

-- what is measured of an arc in the period with this number, counted from 1: for a flow, what the period measured; for a content,
-- what the tank holds at the end of its day
abbrev pub source_measured : List StoredRow → List Period → ℕ → Source → Arc → Option Meas
source_measured rows periods number Flow arc = option_and_then (flow_measured rows arc) (slice_get periods (number - 1))
source_measured rows periods number (Content day) arc = content_measured rows arc day

-- what is measured of a stream of a window of these periods
abbrev pub stream_measured : List StoredRow → List Period → WindowStream → Option Meas
stream_measured rows periods stream = option_and_then (source_measured rows periods stream.period stream.source) (slice_get (arcs_of (declared_of rows)) stream.arc)

-- What is measured of the streams of a window of these periods, in order.
abbrev pub window_measured : List StoredRow → List Period → Window → List (Option Meas)
window_measured rows periods window = map (stream_measured rows periods) window.streams

-- ---- the graph

-- The graph of a window of these periods, or its first stream that is over the limits.
abbrev pub window_assembly : List StoredRow → List Period → Window → Result ProcessGraph Assembly
window_assembly rows periods window = within_limits (window_graph window (window_measured rows periods window))

-- the stream that is over the limits is a stream of this window
abbrev pub IsStreamOfWindow : Window → Assembly → Type 0
IsStreamOfWindow window (Over stream) = stream < length window.streams
IsStreamOfWindow window NoMemory = Unit {0}
