-- Statement. Names of nodes and streams, and what has them.
use Rattle.std.specs.Prelude.{◌≡◌, ℕ, List, [], length, slice_index_or}
use Rattle.pb_rows.specs.declared.name.Names.{Names}
use Rattle.pb_study.specs.declared.results.Study.{Study}
use Rattle.pb_graph.specs.ProcessGraph.{ProcessGraph}
use Rattle.pb_study.specs.WellFormed.{IsWellFormedStudy}

-- one name for each node, and one for each stream
pub record IsNamed (names : Names) (graph : ProcessGraph) : Type 0 where
  pub nodes : length names.nodes ≡ graph.nodes
  pub streams : length names.streams ≡ length graph.streams

-- a well-formed study of a graph that has these names
pub record IsNamedStudy (names : Names) (study : Study) : Type 0 where
  pub graph : ProcessGraph
  pub named : IsNamed names graph
  pub formed : IsWellFormedStudy graph study

-- the name at a place
abbrev pub name_at : List (List ℕ) → ℕ → List ℕ
name_at names i = slice_index_or names i []
