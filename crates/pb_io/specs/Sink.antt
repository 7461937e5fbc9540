-- Statement. What a sink has been seen to do, and what is put into it.
use Rattle.std.specs.Prelude.{◌≡◌, ℕ, ◌<◌, List, length, take, Option}
use Rattle.std.specs.Io.KnownBytes.{Appends}
use Rattle.pb_io.specs.Counts.{counted}

-- What a sink has been seen to do: the bytes that it holds, if it shows them, how many were put, how often it was called,
-- how many of these calls took no byte, how many failed, and how many came after one that failed.
pub record SinkSeen : Type 0 where
  pub contents : Option (List ℕ)
  pub written : ℕ
  pub calls : ℕ
  pub idle : ℕ
  pub faults : ℕ
  pub after_fault : ℕ

-- these bytes were put: they come after the bytes that were held, if these are shown, and the count went up by their number
pub record Puts (old new : SinkSeen) (bytes : List ℕ) : Type 0 where
  pub behind : Appends old.contents new.contents bytes
  pub count : new.written ≡ counted old.written (length bytes)

-- a prefix of the bytes was put, and not all of them
abbrev pub PutsPrefix : SinkSeen → SinkSeen → List ℕ → Type 0
PutsPrefix old new bytes = (n : ℕ) × (n < length bytes) × Puts old new (take n bytes)

-- if no call had failed before, none was made after one that failed: the first fault is the end
abbrev pub StopsAtFault : SinkSeen → SinkSeen → Type 0
StopsAtFault old new = old.faults ≡ 0 → new.after_fault ≡ old.after_fault

-- bytes with this property were put
abbrev pub PutsSuch : (List ℕ → Type 0) → SinkSeen → SinkSeen → Type 0
PutsSuch Holds old new = (bytes : List ℕ) × Holds bytes × Puts old new bytes
