-- Statement. The spanning forest of a list of streams.
use Rattle.std.specs.Prelude.{◌≡◌, ℕ, ◌+◌, ◌<◌, Bool, true, false, not, ◌&&◌, ◌||◌, nat_lt, List, [], ◌∷◌, length, Option, Some, slice_get, get_or, if◌then◌else◌}
use Rattle.pb_graph.specs.declared.records.Stream.{Stream}
use Rattle.pb_graph.specs.declared.records.Step.{Step}
use Rattle.pb_graph.specs.ProcessGraph.{ProcessGraph, is_measured}
use Rattle.pb_graph.specs.Walk.{ends_of, Reaches}
use Rattle.pb_graph.specs.Path.{is_open}

-- The order in which streams are taken: the unmeasured ones by id, and then the measured ones by id. This is whether the k-th
-- stream comes before the j-th one, given whether the j-th one is measured.
abbrev pub is_before : Bool → ℕ → ℕ → Stream → Bool
is_before true j k stream = not (is_measured stream) || nat_lt k j
is_before false j k stream = not (is_measured stream) && nat_lt k j

-- A stream is held, as a branch of the spanning forest, if no walk of streams before it joins its ends (Kruskal 1956; Narasimhan
-- and Jordache, chapter 3).
abbrev pub IsHeld : List Stream → ℕ → Type 0
IsHeld streams j = (stream : Stream) → slice_get streams j ≡ Some stream → Reaches (ends_of (is_before (is_measured stream) j) streams) stream.from stream.to → ⊥

-- A stream is tied, as a chord of the spanning forest, if some walk of streams before it joins its ends.
abbrev pub IsTied : List Stream → ℕ → Type 0
IsTied streams j = (stream : Stream) → slice_get streams j ≡ Some stream → Reaches (ends_of (is_before (is_measured stream) j) streams) stream.from stream.to

-- a mark says whether the j-th stream is held or tied
pub record IsDecided (streams : List Stream) (j : ℕ) (held : Bool) : Type 0 where
  pub apart : held ≡ true → IsHeld streams j
  pub tied : held ≡ false → IsTied streams j

-- The spanning forest of a list of streams: one mark for each stream, true if it is held and false if it is tied.
pub record IsForest (streams : List Stream) (held : List Bool) : Type 0 where
  pub each : length held ≡ length streams
  pub decided : (j : ℕ) → j < length streams → IsDecided streams j (get_or held j false)

-- The degrees of freedom: the number of measured streams held, which is how many balances the measurements can be tested by
-- (Narasimhan and Jordache, chapter 7).
abbrev pub degrees_of_freedom : List Stream → List Bool → ℕ
degrees_of_freedom [] held = 0
degrees_of_freedom (stream ∷ streams) [] = 0
degrees_of_freedom (stream ∷ streams) (mark ∷ held) = (if is_measured stream && mark then 1 else 0) + degrees_of_freedom streams held

-- a process graph with the marks of its streams
pub record SpanningForest : Type 0 where
  pub graph : ProcessGraph
  pub held : List Bool

-- the spanning forest of the graph
pub record IsForestOf (g : ProcessGraph) (forest : SpanningForest) : Type 0 where
  pub graph : forest.graph ≡ g
  pub marks : IsForest g.streams forest.held

-- the ends of a step along a held stream
abbrev pub held_ends : SpanningForest → Step → Option (ℕ × ℕ)
held_ends forest = ends_of (is_open forest.held) forest.graph.streams
