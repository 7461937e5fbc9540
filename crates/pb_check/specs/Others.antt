-- Inside. The other members of a cut and steps of a cycle.
use Rattle.std.specs.Prelude.{◌≡◌, ◌≢◌, ℕ, Some, None, slice_get, IsSome}
use Rattle.pb_graph.specs.declared.records.Stream.{Stream}
use Rattle.pb_graph.specs.declared.records.Member.{Member}
use Rattle.pb_graph.specs.declared.records.Step.{Step}
use Rattle.pb_graph.specs.ProcessGraph.{ProcessGraph}

-- a member is measured unless it is this stream
abbrev pub IsOtherMeasured : ProcessGraph → ℕ → Member → Type 0
IsOtherMeasured graph id member =
    member.stream ≢ id → (stream : Stream) → slice_get graph.streams member.stream ≡ Some stream
    → IsSome stream.meas

-- a step is along an unmeasured stream unless it is along this one
abbrev pub IsOtherUnmeasured : ProcessGraph → ℕ → Step → Type 0
IsOtherUnmeasured graph id step =
    step.stream ≢ id → (stream : Stream) → slice_get graph.streams step.stream ≡ Some stream
    → stream.meas ≡ None
