-- Statement. The process graph that an array of streams is.
use Rattle.std.specs.Prelude.{◌≡◌, ◌⊎◌, ◌<◌, ℕ, List, Option, Some, None, length, map, slice_get, IsSomeAnd, if◌then◌else◌}
use Rattle.pb_limits.specs.Limits.{most_nodes, most_streams}
use Rattle.pb_graph.specs.declared.records.Meas.{Meas}
use Rattle.pb_graph.specs.declared.records.Stream.{Stream}
use Rattle.pb_graph.specs.ProcessGraph.{IsStream, IsWithinLimits, ProcessGraph}
use Rattle.pb_arrays.specs.declared.graphs.PlantbalMeasuredStream.{PlantbalMeasuredStream}
use Rattle.pb_arrays.specs.declared.graphs.NoGraph.{NoGraph}
use Rattle.pb_arrays.specs.declared.graphs.NoGraph.TheVariants as why
use Rattle.pb_arrays.specs.Wide.{wide_value}

-- the measurement of a stream, if it has one
abbrev pub given_measurement : PlantbalMeasuredStream → Option Meas
given_measurement given =
    if given.measured then Some (record { value = given.value; variance = wide_value given.variance }) else None

-- the stream
abbrev pub given_stream : PlantbalMeasuredStream → Stream
given_stream given = record { from = given.from; to = given.to; meas = given_measurement given }

-- the graph of this many nodes
abbrev pub given_graph : ℕ → List PlantbalMeasuredStream → ProcessGraph
given_graph nodes given = record { nodes = nodes; streams = map given_stream given }

-- the stream isn't one of a graph of this many nodes
abbrev pub IsNoStream : ℕ → PlantbalMeasuredStream → Type 0
IsNoStream nodes given = IsStream nodes (given_stream given) → IsWithinLimits (given_stream given) → ⊥

-- why an array of streams is no process graph; without memory there is no other reason
abbrev pub IsNoGraph : ℕ → List PlantbalMeasuredStream → NoGraph → Type 0
IsNoGraph nodes given why.Nodes = (nodes ≡ 0) ⊎ (most_nodes < nodes)
IsNoGraph nodes given why.Streams = most_streams < length given
IsNoGraph nodes given (why.Stream place) = IsSomeAnd (slice_get given place) (IsNoStream nodes)
IsNoGraph nodes given why.NoMemory = Unit {0}
