-- Statement. A source in memory.
use Rattle.std.specs.Prelude.{ℕ, ◌-◌, List, Some, Contains, drop}
use Rattle.pb_io.specs.Counts.{counted}
use Rattle.pb_io.specs.Source.{SourceSeen}

-- the bytes that remain, and how many were taken; the most that a call gives; the numbers of the calls that fail, counted from 1;
-- how many calls there were, how many of them gave no byte, and how many failed
pub record SourceInMemory : Type 0 where
  pub remaining : List ℕ
  pub taken : ℕ
  pub most : ℕ
  pub fails : List ℕ
  pub calls : ℕ
  pub idle : ℕ
  pub faults : ℕ

-- what the source has been seen to do: it shows its bytes
abbrev pub source_seen_in_memory : SourceInMemory → SourceSeen
source_seen_in_memory source =
    record { remaining = Some source.remaining; taken = source.taken; calls = source.calls; idle = source.idle; faults = source.faults }

-- the list names the next call
abbrev pub FailsNext : SourceInMemory → Type 0
FailsNext source = Contains source.fails (counted source.calls 1)

-- the source after a call that gave the next n bytes
abbrev pub after_giving : SourceInMemory → ℕ → SourceInMemory
after_giving source n =
    record source { remaining = drop n source.remaining; taken = counted source.taken n; calls = counted source.calls 1; idle = counted source.idle (1 - n) }

-- the source after a call that failed
abbrev pub source_after_fault : SourceInMemory → SourceInMemory
source_after_fault source = record source { calls = counted source.calls 1; faults = counted source.faults 1 }
