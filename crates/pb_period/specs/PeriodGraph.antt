-- Statement. The graph of the declared plant before any reading, and that of the part in service as a period measured it.
use Rattle.std.specs.Prelude.{ℕ, ◌<◌, pos, Bool, false, ◌||◌, nat_lt, int_lt, unsigned_abs, List, length, map, position, Option, Some, None, Result, Ok, Err, if◌then◌else◌}
use Rattle.std.specs.Option.{option_map_or}
use Rattle.pb_limits.specs.Limits.{most_value, most_variance}
use Rattle.pb_graph.specs.declared.records.Meas.{Meas}
use Rattle.pb_graph.specs.declared.records.Stream.{Stream}
use Rattle.pb_graph.specs.ProcessGraph.{ProcessGraph}
use Rattle.pb_site.specs.declared.declared.Arc.{Arc}
use Rattle.pb_site.specs.Row.{is_plain_kind}
use Rattle.pb_rows.specs.declared.name.Names.{Names}
use Rattle.pb_site.specs.declared.declared.Declared.{Declared}
use Rattle.pb_site.specs.declared.declared.Version.{Version}
use Rattle.pb_site.specs.declared.declared.Version.TheVariants.{One, Two}
use Rattle.pb_site.specs.OnDays.{arcs_on, names_on, nodes_on, place_among}
use Rattle.pb_site.specs.Site.{arcs_of, node_names, version_of}
use Rattle.pb_facts.specs.declared.fact.Fact.{Fact}
use Rattle.pb_facts.specs.Facts.{live_facts}
use Rattle.pb_kinds.specs.declared.rows.StoredRow.{StoredRow}
use Rattle.pb_book.specs.Rows.{declared_of, facts_of}
use Rattle.pb_period.specs.declared.days.Days.{Days}
use Rattle.pb_period.specs.declared.graph.Assembly.{Assembly}
use Rattle.pb_period.specs.declared.graph.Assembly.TheVariants.{NoMemory, Over}
use Rattle.pb_period.specs.Measurement.{measured}

-- the stream of an arc, with what was measured of it
abbrev pub stream_with : (Arc → Option Meas) → Arc → Stream
stream_with measure arc = record { from = arc.from; to = arc.to; meas = measure arc }

-- the declared plant: its nodes are the environment, the units and the tanks; its streams are the declared streams and the
-- inventories of the tanks; all are in order of declaration
abbrev pub graph_with : (Arc → Option Meas) → List StoredRow → ProcessGraph
graph_with measure rows = record {
  nodes = length (node_names (declared_of rows));
  streams = map (stream_with measure) (arcs_of (declared_of rows));
}

-- before any reading: the value 0 with the base variance, for all streams except plain ones
abbrev pub base_of : Arc → Option Meas
base_of arc = if is_plain_kind arc.kind then None else Some (record { value = pos 0; variance = arc.base })

-- The graph of a design.
abbrev pub design_graph : List StoredRow → ProcessGraph
design_graph rows = graph_with base_of rows

-- the stream of an arc among some nodes, with what was measured of it
abbrev pub stream_among : List ℕ → (Arc → Option Meas) → Arc → Stream
stream_among nodes measure arc = record {
  from = place_among nodes arc.from;
  to = place_among nodes arc.to;
  meas = measure arc;
}

-- what is measured of an arc on some days, in a session of this version: in version 2, on those of them on which it is in service
abbrev pub measured_in : Version → List Declared → List Fact → Days → Arc → Option Meas
measured_in One declared facts days arc = measured declared facts days None arc
measured_in Two declared facts days arc = measured declared facts days arc.service arc

-- the part of the plant that is in service on any of these days: its streams are the declared streams and the inventories of the
-- tanks that are in service; its nodes are the environment and the ends of these streams; all are in order of declaration
abbrev pub served_graph : List Declared → List Fact → Days → ProcessGraph
served_graph declared facts days =
    let nodes = nodes_on Two declared days.first days.last in
    record {
      nodes = length nodes;
      streams = map (stream_among nodes (measured_in Two declared facts days)) (arcs_on Two declared days.first days.last);
    }

-- The graph of the days of a period in a session of this version: in version 1 that of the whole plant, in version 2 that of the
-- part in service.
abbrev pub graph_in : Version → List StoredRow → Days → ProcessGraph
graph_in One rows days = graph_with (measured (declared_of rows) (live_facts (facts_of rows)) days None) rows
graph_in Two rows days = served_graph (declared_of rows) (live_facts (facts_of rows)) days

-- The graph of the days of a period.
abbrev pub period_graph : List StoredRow → Days → ProcessGraph
period_graph rows days = graph_in (version_of (declared_of rows)) rows days

-- the names of its nodes and streams
abbrev pub period_names : List StoredRow → Days → Names
period_names rows days = let declared = declared_of rows in names_on (version_of declared) declared days.first days.last

-- measured as a value above 10^15 grams either way, or with a variance above 10^22 squared grams: above the limits of a graph
abbrev pub is_over : Stream → Bool
is_over stream =
    option_map_or (λ (meas : Meas). nat_lt most_value (unsigned_abs meas.value) || int_lt (pos most_variance) meas.variance) stream.meas false

abbrev pub unless_over : ProcessGraph → Option ℕ → Result ProcessGraph Assembly
unless_over graph found = option_map_or (λ stream. Err (Over stream)) found (Ok graph)

-- the graph, or its first stream that is over the limits
abbrev pub within_limits : ProcessGraph → Result ProcessGraph Assembly
within_limits graph = unless_over graph (position is_over graph.streams)

-- The graph of the days of a period, or its first stream that is over the limits.
abbrev pub assembly_of : List StoredRow → Days → Result ProcessGraph Assembly
assembly_of rows days = within_limits (graph_in (version_of (declared_of rows)) rows days)

-- the stream that is over the limits is a stream of this graph
abbrev pub IsStreamOfGraph : ProcessGraph → Assembly → Type 0
IsStreamOfGraph graph (Over stream) = stream < length graph.streams
IsStreamOfGraph graph NoMemory = Unit {0}

-- the stream that is over the limits is a stream of the graph of some days
abbrev pub NamesAStream : List StoredRow → Days → Assembly → Type 0
NamesAStream rows days why = IsStreamOfGraph (period_graph rows days) why
