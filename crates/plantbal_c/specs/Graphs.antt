-- Statement. The size of a graph, the names in it, and the classes of its streams, as C has them.
use Rattle.std.specs.Prelude.{◌≡◌, ℕ, List, length}
use Rattle.pb_rows.specs.declared.name.Names.{Names}
use Rattle.pb_graph.specs.declared.records.Classified.{Classified}
use Rattle.pb_graph.specs.ProcessGraph.{ProcessGraph}
use Rattle.pb_classify.specs.Classification.{IsClassification}
use Rattle.pb_arrays.specs.ShownStream.{class_numbers}
use Rattle.pb_shown.specs.Texts.{names_shown}
use Rattle.pb_shown.specs.declared.names.PlantbalName.{PlantbalName}
use Rattle.plantbal_c.specs.declared.graphs.PlantbalGraphSize.{PlantbalGraphSize}

-- the arrays say what the names of the nodes and of the streams are
pub record ShowsNames (names : Names) (nodes streams : List PlantbalName) : Type 0 where
  pub nodes_shown : nodes ≡ names_shown names.nodes
  pub streams_shown : streams ≡ names_shown names.streams

-- these are how many names of nodes and of streams there are
pub record CountsNames (names : Names) (nodes streams : ℕ) : Type 0 where
  pub nodes_counted : nodes ≡ length names.nodes
  pub streams_counted : streams ≡ length names.streams

-- the numbers are those of the classes of a graph's streams, in order
pub record AreClasses (graph : ProcessGraph) (numbers : List ℕ) : Type 0 where
  pub classes : List Classified
  pub classified : IsClassification graph classes
  pub numbered : numbers ≡ class_numbers classes

-- the size of no graph
abbrev pub no_size : PlantbalGraphSize
no_size = record { nodes = 0; over = 0; streams = 0 }

-- the size is that of a graph
pub record IsSizeOf (graph : ProcessGraph) (size : PlantbalGraphSize) : Type 0 where
  pub nodes_counted : size.nodes ≡ graph.nodes
  pub streams_counted : size.streams ≡ length graph.streams
