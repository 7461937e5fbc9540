-- Inside. Which nodes the arcs in service in a period join, marked in one pass over the arcs.
use Rattle.std.specs.Prelude.{◌≡◌, ℕ, ◌<◌, ◌&&◌, ◌||◌, Bool, false, List, length, slice_index_or}
use Rattle.std.specs.List.{list_any}
use Rattle.pb_plan.specs.declared.plant.PlantArc.{PlantArc}
use Rattle.pb_plan.specs.declared.plant.Span.{Span}
use Rattle.pb_plan.specs.Plant.{is_end, is_served}

-- an arc in service joins a node in a period
abbrev pub is_joined : List PlantArc → Span → ℕ → Bool
is_joined arcs span node = list_any (λ (arc : PlantArc). is_served span arc && is_end node arc) arcs

-- a node is marked
abbrev pub is_marked : List Bool → ℕ → Bool
is_marked marks node = slice_index_or marks node false

-- for each of this many nodes, whether one of these arcs joins it in a period
pub record AreJoined (arcs : List PlantArc) (span : Span) (nodes : ℕ) (joined : List Bool) : Type 0 where
  pub each : length joined ≡ nodes
  pub marked : (node : ℕ) → node < nodes → is_marked joined node ≡ is_joined arcs span node

-- the ends of an arc are marked, and so are the nodes that were
pub record MarksEnds (arc : PlantArc) (old new : List Bool) : Type 0 where
  pub each : length new ≡ length old
  pub marked : (node : ℕ) → node < length old → is_marked new node ≡ (is_marked old node || is_end node arc)
