-- The names of the declared plant are those of its graphs.
use Rattle.std.proofs.Common.{◌≡◌, ◌∙◌, ◌<◌, ℕ, List, length, sym, refl, subst, Option, Some, None, Ok}
use Rattle.std.proofs.lemmas.List.{length-map}
use Rattle.pb_rows.specs.declared.name.Names.{Names}
use Rattle.pb_graph.specs.ProcessGraph.{ProcessGraph}
use Rattle.pb_graph.specs.declared.records.Meas.{Meas}
use Rattle.std.specs.Prelude.{All}
use Rattle.pb_advise.specs.Choice.{AreCosts}
use Rattle.pb_site.specs.declared.declared.Arc.{Arc}
use Rattle.pb_site.specs.Site.{HasDistinctNames, arc_names, arcs_of, names_of}
use Rattle.pb_kinds.specs.declared.costs.NamedCost.{NamedCost}
use Rattle.pb_kinds.specs.declared.rows.StoredRow.{StoredRow}
use Rattle.pb_kinds.specs.Costs.{IsMeterCost}
use Rattle.pb_book.specs.Costs.{cost_of_arc, meter_costs}
use Rattle.pb_book.specs.Rows.{declared_of}
use Rattle.pb_period.specs.declared.days.Days.{Days}
use Rattle.pb_period.specs.Laws.{AreGraphNames}
use Rattle.pb_period.specs.PeriodGraph.{assembly_of, graph_with, period_graph, period_names, stream_with, unless_over}
use Rattle.pb_session.specs.Session.{AreNamesOf}

as_many : (measure : Arc → Option Meas) (rows : List StoredRow) → length (arc_names (declared_of rows)) ≡ length (graph_with measure rows).streams
as_many measure rows =
    length-map (arcs_of (declared_of rows)) (λ (arc : Arc). arc.name) ∙ sym (length-map (arcs_of (declared_of rows)) (stream_with measure))

-- what meters cost is one number for each stream
costs_each : (measure : Arc → Option Meas) (rows : List StoredRow) (costs : List NamedCost) → length (meter_costs (declared_of rows) costs) ≡ length (graph_with measure rows).streams
costs_each measure rows costs =
    length-map (arcs_of (declared_of rows)) (cost_of_arc costs) ∙ sym (length-map (arcs_of (declared_of rows)) (stream_with measure))

-- each is a cost that a meter may have
pub costs_are : (measure : Arc → Option Meas) (rows : List StoredRow) (costs : List NamedCost) → All IsMeterCost (meter_costs (declared_of rows) costs)
    → AreCosts (graph_with measure rows) (meter_costs (declared_of rows) costs)
costs_are measure rows costs within = record { each = costs_each measure rows costs; within = within }

-- of a graph with any measurements
pub names_are : (measure : Arc → Option Meas) (rows : List StoredRow) → HasDistinctNames (declared_of rows)
    → AreNamesOf (names_of (declared_of rows)) (graph_with measure rows)
names_are measure rows distinct = record {
  each = record { nodes = refl; streams = as_many measure rows };
  environment = refl;
  nodes = distinct.nodes;
  streams = distinct.arcs;
}

pub unless_is : (made graph : ProcessGraph) (found : Option ℕ) → Ok graph ≡ unless_over made found → made ≡ graph
unless_is made graph (Some stream) is = cc is
unless_is made graph None is = cc is

-- names of a graph are names of it here too
pub graph_names_are : (names : Names) (graph : ProcessGraph) → AreGraphNames names graph → AreNamesOf names graph
graph_names_are names graph named = record {
  each = record { nodes = named.each_node; streams = named.each_stream };
  environment = named.environment;
  nodes = named.nodes;
  streams = named.streams;
}

-- of the graph of a period
pub period_names_are : (rows : List StoredRow) (days : Days) (graph : ProcessGraph) → AreGraphNames (period_names rows days) (period_graph rows days) → Ok graph ≡ assembly_of rows days
    → AreNamesOf (period_names rows days) graph
period_names_are rows days graph named is =
    subst (λ (g : ProcessGraph). AreNamesOf (period_names rows days) g) (unless_is (period_graph rows days) graph _ is)
    (graph_names_are (period_names rows days) (period_graph rows days) named)

-- a stream of the graph of a period has a name
pub stream_named : (rows : List StoredRow) (days : Days) (j : ℕ) → AreGraphNames (period_names rows days) (period_graph rows days) → j < length (period_graph rows days).streams
    → j < length (period_names rows days).streams
stream_named rows days j named there = subst (λ (n : ℕ). j < n) (sym named.each_stream) there
