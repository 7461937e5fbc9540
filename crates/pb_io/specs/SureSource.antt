-- Statement. A source that never fails.
use Rattle.std.specs.Prelude.{ℕ, ◌-◌, List, Some, drop}
use Rattle.pb_io.specs.Counts.{counted}
use Rattle.pb_io.specs.Source.{SourceSeen}

-- the bytes that remain, and how many were taken; how many calls there were, and how many of them gave no byte
pub record SourceWithoutFault : Type 0 where
  pub remaining : List ℕ
  pub taken : ℕ
  pub calls : ℕ
  pub idle : ℕ

-- what the source has been seen to do: it shows its bytes, and no call failed
abbrev pub seen_without_fault : SourceWithoutFault → SourceSeen
seen_without_fault source =
    record { remaining = Some source.remaining; taken = source.taken; calls = source.calls; idle = source.idle; faults = 0 }

-- the source after a call that gave the next n bytes
abbrev pub sure_after_giving : SourceWithoutFault → ℕ → SourceWithoutFault
sure_after_giving source n =
    record { remaining = drop n source.remaining; taken = counted source.taken n; calls = counted source.calls 1; idle = counted source.idle (1 - n) }
