-- Statement. The graph of a window, with what was measured.
use Rattle.std.specs.Prelude.{◌≡◌, ℕ, ◌+◌, ◌<◌, List, length, map, zip, slice_get, Option, Some}
use Rattle.pb_graph.specs.declared.records.Meas.{Meas}
use Rattle.pb_graph.specs.declared.records.Stream.{Stream}
use Rattle.pb_graph.specs.ProcessGraph.{ProcessGraph, IsWithinLimits}
use Rattle.pb_plan.specs.declared.graph.WindowAssembly.{WindowAssembly}
use Rattle.pb_plan.specs.declared.graph.WindowAssembly.TheVariants.{NoMemory, Over}
use Rattle.pb_plan.specs.declared.window.Window.{Window}
use Rattle.pb_plan.specs.declared.window.WindowStream.{WindowStream}

-- a stream of a window, with what was measured of it
abbrev pub graph_stream : WindowStream → Option Meas → Stream
graph_stream stream meas = record { from = stream.from; to = stream.to; meas = meas }

abbrev pub graph_streams : List WindowStream → List (Option Meas) → List Stream
graph_streams streams measured = map (λ (one : WindowStream × Option Meas). graph_stream one.0 one.1) (zip streams measured)

-- The graph of a window: the environment with its nodes, and its streams with what was measured of them.
abbrev pub window_graph : Window → List (Option Meas) → ProcessGraph
window_graph window measured = record { nodes = 1 + length window.nodes; streams = graph_streams window.streams measured }

-- the first stream of a graph whose measurement is outside the limits
pub record IsFirstStreamOutside (graph : ProcessGraph) (j : ℕ) : Type 0 where
  pub stream : Stream
  pub there : slice_get graph.streams j ≡ Some stream
  pub outside : IsWithinLimits stream → ⊥
  pub before : (k : ℕ) (one : Stream) → k < j → slice_get graph.streams k ≡ Some one → IsWithinLimits one

abbrev pub IsFirstOutside : ProcessGraph → WindowAssembly → Type 0
IsFirstOutside graph (Over j) = IsFirstStreamOutside graph j
IsFirstOutside graph NoMemory = Unit {0}
