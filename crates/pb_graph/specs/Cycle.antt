-- Statement. Cycles: closed walks on which nothing appears twice.
use Rattle.std.specs.Prelude.{ℕ, ◌<◌, Bool, true, not, ◌&&◌, ◌==◌, List, [], ◌∷◌, length, Option, Some, None, IsTrue}
use Rattle.std.specs.List.{list_any}
use Rattle.pb_graph.specs.declared.records.Stream.{Stream}
use Rattle.pb_graph.specs.declared.records.Step.{Step}
use Rattle.pb_graph.specs.ProcessGraph.{ProcessGraph}
use Rattle.pb_graph.specs.Walk.{ends_of, any_stream, Walks}

-- no two items of a list have the same key
abbrev pub is_distinct : {A : Type 0} → (A → ℕ) → List A → Bool
is_distinct key [] = true
is_distinct key (x ∷ xs) = not (list_any (λ y. key y == key x) xs) && is_distinct key xs

-- the node where a step with these ends begins, or n if it has none
abbrev pub first_or : ℕ → Option (ℕ × ℕ) → ℕ
first_or n None = n
first_or n (Some ends) = ends.0

-- the node where a step begins, or the number of nodes if there is no such stream
abbrev pub begin_of : ℕ → List Stream → Step → ℕ
begin_of nodes streams step = first_or nodes (ends_of any_stream streams step)

-- the node where the first of these steps begins
abbrev pub start_of : ProcessGraph → List Step → ℕ
start_of graph [] = 0
start_of graph (step ∷ rest) = begin_of graph.nodes graph.streams step

-- A cycle: a closed walk of at least one step on which no stream and no node appears twice.
pub record IsCycle (graph : ProcessGraph) (steps : List Step) : Type 0 where
  pub some : 0 < length steps
  pub back : Walks (ends_of any_stream graph.streams) (start_of graph steps) steps (start_of graph steps)
  pub each_stream : IsTrue (is_distinct (λ step. step.stream) steps)
  pub each_node : IsTrue (is_distinct (begin_of graph.nodes graph.streams) steps)
