-- The names of a window are those of its graph.
use Rattle.std.specs.Prelude.{map}
use Rattle.std.proofs.Common.{◌≡◌, ◌∙◌, ℕ, List, [], ◌∷◌, length, Option, Some, None, Ok, refl, sym, subst, arith}
use Rattle.std.proofs.lemmas.List.{length-map}
use Rattle.pb_graph.specs.declared.records.Meas.{Meas}
use Rattle.pb_graph.specs.ProcessGraph.{ProcessGraph}
use Rattle.pb_plan.specs.declared.window.Window.{Window}
use Rattle.pb_plan.specs.declared.window.WindowStream.{WindowStream}
use Rattle.pb_plan.specs.Codes.{AreWindowNames, node_code, stream_code, window_names}
use Rattle.pb_plan.specs.Graph.{graph_streams, window_graph}
use Rattle.pb_periods.specs.declared.period.Period.{Period}
use Rattle.pb_kinds.specs.declared.rows.StoredRow.{StoredRow}
use Rattle.pb_period.specs.Laws.{AreGraphNames}
use Rattle.pb_period.specs.PeriodGraph.{unless_over}
use Rattle.pb_period.specs.WindowGraph.{stream_measured, window_assembly, window_measured}

as_many_streams : (f : WindowStream → Option Meas) (streams : List WindowStream) → length (graph_streams streams (map f streams)) ≡ length streams
as_many_streams f [] = refl
as_many_streams f (s ∷ streams) = omega (arith, as_many_streams f streams)

unless_is : (made graph : ProcessGraph) (found : Option ℕ) → Ok graph ≡ unless_over made found → made ≡ graph
unless_is made graph (Some stream) is = cc is
unless_is made graph None is = cc is

-- the names of a window's nodes and streams are those of its graph
pub window_names_are : (rows : List StoredRow) (periods : List Period) (window : Window) (graph : ProcessGraph) → AreWindowNames window
    → Ok graph ≡ window_assembly rows periods window → AreGraphNames (window_names window) graph
window_names_are rows periods window graph codes is =
    subst (λ (g : ProcessGraph). AreGraphNames (window_names window) g) (unless_is (window_graph window (window_measured rows periods window)) graph _ is) (record {
      each_node = omega (arith, length-map window.nodes node_code);
      each_stream = length-map window.streams stream_code ∙ sym (as_many_streams (stream_measured rows periods) window.streams);
      environment = refl;
      nodes = codes.nodes.differ;
      streams = codes.streams.differ;
    })
