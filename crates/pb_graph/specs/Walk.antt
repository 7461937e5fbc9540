-- Statement. Walks along streams, each in either direction, and the nodes that they reach.
use Rattle.std.specs.Prelude.{◌≡◌, ℕ, Bool, true, false, not, ◌&&◌, ◌==◌, List, [], ◌∷◌, length, Option, Some, None, slice_get, get_or, if◌then◌else◌}
use Rattle.pb_graph.specs.declared.records.Stream.{Stream}
use Rattle.pb_graph.specs.declared.records.Step.{Step}
use Rattle.pb_graph.specs.ProcessGraph.{is_measured}

-- the node where a step along a stream begins, and the node where it ends
abbrev pub along : Bool → Stream → ℕ × ℕ
along true stream = (stream.from, stream.to)
along false stream = (stream.to, stream.from)

-- the ends of a step along a stream, if the stream exists and may be taken
abbrev pub ends_at : (ℕ → Stream → Bool) → ℕ → Bool → Option Stream → Option (ℕ × ℕ)
ends_at may stream_id forward None = None
ends_at may stream_id forward (Some stream) = if may stream_id stream then Some (along forward stream) else None

-- the ends of a step in a list of streams, of which those whose place and stream pass the test may be taken
abbrev pub ends_of : (ℕ → Stream → Bool) → List Stream → Step → Option (ℕ × ℕ)
ends_of may streams step = ends_at may step.stream step.forward (slice_get streams step.stream)

-- A walk from a to b: each step begins where the one before it ends (graph theory's walk, along arcs in either direction).
abbrev pub Walks : (Step → Option (ℕ × ℕ)) → ℕ → List Step → ℕ → Type 0
Walks ends a [] b = a ≡ b
Walks ends a (step ∷ rest) b = (c : ℕ) × (ends step ≡ Some (a, c)) × Walks ends c rest b

-- some walk leads from a to b
abbrev pub Reaches : (Step → Option (ℕ × ℕ)) → ℕ → ℕ → Type 0
Reaches ends a b = (steps : List Step) × Walks ends a steps b

-- the test that any stream may be taken
abbrev pub any_stream : ℕ → Stream → Bool
any_stream stream_id stream = true

-- the test that unmeasured streams may be taken
abbrev pub unmeasured : ℕ → Stream → Bool
unmeasured stream_id stream = not (is_measured stream)

-- the test that unmeasured streams may be taken, except for one
abbrev pub unmeasured_but : ℕ → ℕ → Stream → Bool
unmeasured_but but stream_id stream = not (is_measured stream) && not (stream_id == but)

-- every stream of the list that passes the first test passes the second
abbrev pub IsStricter : List Stream → (ℕ → Stream → Bool) → (ℕ → Stream → Bool) → Type 0
IsStricter streams may more = (k : ℕ) (stream : Stream) → slice_get streams k ≡ Some stream → may k stream ≡ true → more k stream ≡ true

-- whether a node is in a side, which has one item for each node
abbrev pub is_in : List Bool → ℕ → Bool
is_in side node = get_or side node false

-- a side is the set of nodes that a reaches
pub record IsReach (ends : Step → Option (ℕ × ℕ)) (nodes a : ℕ) (side : List Bool) : Type 0 where
  pub each : length side ≡ nodes
  pub reached : (n : ℕ) → is_in side n ≡ true → Reaches ends a n
  pub whole : (n : ℕ) → Reaches ends a n → is_in side n ≡ true
