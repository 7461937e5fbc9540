-- Inside. What is known while the streams are considered in order, and the cycles of the unmeasured streams outside the forest are
-- given to the streams on them.
use Rattle.std.specs.Prelude.{◌≡◌, ℕ, ◌<◌, Bool, false, List, length, Option, Some, None, slice_get, get_or, if◌then◌else◌}
use Rattle.pb_graph.specs.declared.records.Stream.{Stream}
use Rattle.pb_graph.specs.declared.records.Step.{Step}
use Rattle.pb_graph.specs.ProcessGraph.{ProcessGraph, is_measured}
use Rattle.pb_graph.specs.Walk.{ends_of, Reaches}
use Rattle.pb_graph.specs.Path.{is_open}
use Rattle.pb_classify.specs.Certificate.{IsCycleOf, IsFirstCycle, has_stream}

-- held streams join the ends of stream j
abbrev pub IsJoined : ProcessGraph → List Bool → ℕ → Type 0
IsJoined graph held j = (stream : Stream) → slice_get graph.streams j ≡ Some stream → Reaches (ends_of (is_open held) graph.streams) stream.to stream.from

-- stream k is unmeasured and outside the forest
pub record IsChord (graph : ProcessGraph) (held : List Bool) (k : ℕ) (stream : Stream) : Type 0 where
  pub at : slice_get graph.streams k ≡ Some stream
  pub unmeasured : is_measured stream ≡ false
  pub outside : get_or held k false ≡ false

-- the cycle of stream k doesn't have stream j
pub record IsCycleWithout (graph : ProcessGraph) (held : List Bool) (k j : ℕ) : Type 0 where
  pub steps : List Step
  pub cycle : IsCycleOf graph held k steps
  pub lacks : has_stream j steps ≡ false

-- the first cycle that has stream j, of a chord before place n, or none if no cycle of a chord before that place has it
abbrev pub IsFirstBefore : ProcessGraph → List Bool → ℕ → ℕ → Option (List Step) → Type 0
IsFirstBefore graph held n j None = (k : ℕ) (stream : Stream) → k < n → IsChord graph held k stream → IsCycleWithout graph held k j
IsFirstBefore graph held n j (Some steps) = IsFirstCycle graph held j steps

-- for each stream, the first cycle that has it, of a chord before place n
pub record AreFirstBefore (graph : ProcessGraph) (held : List Bool) (n : ℕ) (cycles : List (Option (List Step))) : Type 0 where
  pub each : length cycles ≡ length graph.streams
  pub first : (j : ℕ) → j < length graph.streams → IsFirstBefore graph held n j (get_or cycles j None)

-- stream j's cycle after one more cycle: the one that it has already, or else the new one, if that has the stream
abbrev pub after_cycle : List Step → ℕ → Option (List Step) → Option (List Step)
after_cycle steps j None = if has_stream j steps then Some steps else None
after_cycle steps j (Some old) = Some old
