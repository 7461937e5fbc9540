-- Statement. For each node, the streams with an end there.
use Rattle.std.specs.Prelude.{◌≡◌, ℕ, ◌+◌, ◌<◌, Bool, ◌||◌, ◌==◌, List, [], ◌∷◌, length, Some, slice_get, if◌then◌else◌}
use Rattle.pb_graph.specs.declared.records.Stream.{Stream}
use Rattle.pb_graph.specs.ProcessGraph.{ProcessGraph}

-- whether a stream has an end at a node
abbrev pub touches : ℕ → Stream → Bool
touches node stream = (stream.from == node) || (stream.to == node)

-- the places of the streams with an end at a node, among streams that are numbered from this number on
abbrev pub touching_from : ℕ → ℕ → List Stream → List ℕ
touching_from node stream_id [] = []
touching_from node stream_id (stream ∷ streams) =
    if touches node stream then stream_id ∷ touching_from node (stream_id + 1) streams else touching_from node (stream_id + 1) streams

-- the places of the streams with an end at a node, in order (graph theory's incidence list)
abbrev pub touching : ℕ → List Stream → List ℕ
touching node streams = touching_from node 0 streams

-- one incidence list for each node
pub record IsNeighbours (graph : ProcessGraph) (near : List (List ℕ)) : Type 0 where
  pub each : length near ≡ graph.nodes
  pub lists : (n : ℕ) → n < graph.nodes → slice_get near n ≡ Some (touching n graph.streams)
