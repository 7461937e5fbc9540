-- Statement. The rows of a design: one for the graph, and one for each stream, with its class and its certificate.
use Rattle.std.specs.Prelude.{ℕ, pos, List, [], ◌∷◌, length}
use Rattle.pb_rows.specs.declared.name.Names.{Names}
use Rattle.pb_form.specs.Value.{Name, Number, Word}
use Rattle.pb_form.specs.declared.output.OutputKind.TheVariants as kind
use Rattle.pb_graph.specs.declared.records.Stream.{Stream}
use Rattle.pb_graph.specs.declared.records.Classified.{Classified}
use Rattle.pb_graph.specs.ProcessGraph.{ProcessGraph, is_measured}
use Rattle.pb_report.specs.Certificate.{certificate_values}
use Rattle.pb_report.specs.Names.{name_at}
use Rattle.pb_choices.specs.Places.{class_place, truth_place}
use Rattle.pb_report.specs.Row.{OutputRow, row_of}
use Rattle.pb_report.specs.Rows.{rows_with}

-- the row of the stream at a place: its name and the names of the nodes that it leads from and to, whether it is measured, its class
-- and its certificate
abbrev pub class_row : Names → ℕ → Stream → Classified → OutputRow
class_row names id stream classified =
    row_of kind.Class
    (Name (name_at names.streams id) ∷ Name (name_at names.nodes stream.from) ∷ Name (name_at names.nodes stream.to)
    ∷ Word (truth_place (is_measured stream)) ∷ Word (class_place classified.class)
    ∷ certificate_values names classified.witness)

-- the row of the graph: how many nodes, including the environment, and how many streams
abbrev pub graph_row : ProcessGraph → OutputRow
graph_row graph = row_of kind.Design (Number (pos graph.nodes) ∷ Number (pos (length graph.streams)) ∷ [])

-- all rows of a design
abbrev pub design_rows : Names → ProcessGraph → List Classified → List OutputRow
design_rows names graph classes = graph_row graph ∷ rows_with (class_row names) 0 graph.streams classes
