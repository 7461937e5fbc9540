-- Statement. Paths: walks on which no node appears twice.
use Rattle.std.specs.Prelude.{◌≡◌, ℕ, Bool, false, ◌==◌, List, Option, IsTrue, get_or}
use Rattle.std.specs.List.{list_any}
use Rattle.pb_graph.specs.declared.records.Stream.{Stream}
use Rattle.pb_graph.specs.declared.records.Step.{Step}
use Rattle.pb_graph.specs.Walk.{ends_of, Walks}
use Rattle.pb_graph.specs.Cycle.{is_distinct, begin_of}

-- A path from a to b: a walk on which no node appears twice.
pub record IsPath (ends : Step → Option (ℕ × ℕ)) (nodes : ℕ) (streams : List Stream) (a : ℕ) (steps : List Step) (b : ℕ) : Type 0 where
  pub walk : Walks ends a steps b
  pub once : IsTrue (is_distinct (begin_of nodes streams) steps)
  pub last : list_any (λ step. begin_of nodes streams step == b) steps ≡ false

-- the streams that may be taken according to a list of marks: those that are marked
abbrev pub is_open : List Bool → ℕ → Stream → Bool
is_open marks stream_id stream = get_or marks stream_id false

-- the ends of a step along a marked stream
abbrev pub open_ends : List Bool → List Stream → Step → Option (ℕ × ℕ)
open_ends marks streams = ends_of (is_open marks) streams
