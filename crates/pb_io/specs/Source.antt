-- Statement. What a source has been seen to do, and what is taken from it.
use Rattle.std.specs.Prelude.{◌≡◌, ℕ, ◌+◌, ◌≤◌, List, length, Option}
use Rattle.std.specs.Io.KnownBytes.{Consumes}
use Rattle.pb_io.specs.Counts.{counted}

-- What a source has been seen to do: the bytes that remain, if it shows them, how many were taken, how often it was
-- called, how many of these calls gave no byte, and how many failed.
pub record SourceSeen : Type 0 where
  pub remaining : Option (List ℕ)
  pub taken : ℕ
  pub calls : ℕ
  pub idle : ℕ
  pub faults : ℕ

-- these bytes were taken: they came before the bytes that remain, if these are shown, and the count went up by their number
pub record Takes (old new : SourceSeen) (bytes : List ℕ) : Type 0 where
  pub front : Consumes old.remaining new.remaining bytes
  pub count : new.taken ≡ counted old.taken (length bytes)

-- these bytes were taken in turns; at most one turn, the last, gave no byte: so there was at most one more turn than bytes
pub record TakesInTurns (old new : SourceSeen) (bytes : List ℕ) : Type 0 where
  pub takes : Takes old new bytes
  pub idle : new.idle ≤ counted old.idle 1
  pub turns : new.calls ≤ counted old.calls (length bytes + 1)

-- some bytes with this property were taken in such turns
abbrev pub TakesSuch : (List ℕ → Type 0) → SourceSeen → SourceSeen → Type 0
TakesSuch Holds old new = (bytes : List ℕ) × TakesInTurns old new bytes × Holds bytes
