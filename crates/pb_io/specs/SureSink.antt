-- Statement. A sink that never fails and drops its bytes.
use Rattle.std.specs.Prelude.{ℕ, ◌-◌, None}
use Rattle.pb_io.specs.Counts.{counted}
use Rattle.pb_io.specs.Sink.{SinkSeen}

-- how many bytes were put; how many calls there were, and how many of them took no byte
pub record SinkWithoutFault : Type 0 where
  pub written : ℕ
  pub calls : ℕ
  pub idle : ℕ

-- what the sink has been seen to do: it shows no bytes, and no call failed
abbrev pub counted_without_fault : SinkWithoutFault → SinkSeen
counted_without_fault sink = record { contents = None; written = sink.written; calls = sink.calls; idle = sink.idle; faults = 0; after_fault = 0 }

-- the sink after a call that took n bytes
abbrev pub after_dropping : SinkWithoutFault → ℕ → SinkWithoutFault
after_dropping sink n =
    record { written = counted sink.written n; calls = counted sink.calls 1; idle = counted sink.idle (1 - n) }
