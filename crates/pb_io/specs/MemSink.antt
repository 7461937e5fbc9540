-- Statement. A sink in memory.
use Rattle.std.specs.Prelude.{ℕ, ◌-◌, ◌≤◌, ◌⊎◌, ◌++◌, List, Some, length, min, Contains}
use Rattle.pb_io.specs.Counts.{counted}
use Rattle.pb_io.specs.Sink.{SinkSeen}

-- the bytes that are held, and how many were put; how many there is room for in all; the most that a call appends;
-- the numbers of the calls that fail, counted from 1; how many calls there were, how many of them took no byte, how many failed, and
-- how many came after one that failed
pub record SinkInMemory : Type 0 where
  pub contents : List ℕ
  pub written : ℕ
  pub room : ℕ
  pub most : ℕ
  pub fails : List ℕ
  pub calls : ℕ
  pub idle : ℕ
  pub faults : ℕ
  pub after_fault : ℕ

-- what the sink has been seen to do: it shows its bytes
abbrev pub sink_seen_in_memory : SinkInMemory → SinkSeen
sink_seen_in_memory sink =
    record { contents = Some sink.contents; written = sink.written; calls = sink.calls; idle = sink.idle; faults = sink.faults; after_fault = sink.after_fault }

-- the list names the next call, or no room is left
abbrev pub RefusesNext : SinkInMemory → Type 0
RefusesNext sink = Contains sink.fails (counted sink.calls 1) ⊎ (sink.room ≤ length sink.contents)

-- the sink once it is called: the call is counted, and counted as one after a fault if there was a fault before
abbrev pub sink_called : SinkInMemory → SinkInMemory
sink_called sink = record sink { calls = counted sink.calls 1; after_fault = counted sink.after_fault (min 1 sink.faults) }

-- the sink after a call that appended these bytes
abbrev pub after_appending : SinkInMemory → List ℕ → SinkInMemory
after_appending sink bytes =
    let n = length bytes in
    record (sink_called sink) { contents = sink.contents ++ bytes; written = counted sink.written n; idle = counted sink.idle (1 - n) }

-- the sink after a call that failed
abbrev pub sink_after_fault : SinkInMemory → SinkInMemory
sink_after_fault sink = record (sink_called sink) { faults = counted sink.faults 1 }
