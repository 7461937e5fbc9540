-- Statement. Counts that a u64 holds: of bytes, of calls, of idle calls, of faults.
use Rattle.std.specs.Prelude.{◌≡◌, ℕ, ◌+◌, ◌-◌, ◌^◌, ◌<◌, ◌⊎◌, min}

-- the greatest u64, at which a count stays
abbrev pub greatest : ℕ
greatest = 2 ^ 64 - 1

-- a count after n more, or the greatest if the count would pass it
abbrev pub counted : ℕ → ℕ → ℕ
counted count n = count + min n (greatest - count)

-- a count rose in a call: it is greater after the call than before, or is at the greatest
abbrev pub Rose : ℕ → ℕ → Type 0
Rose before after = (before < after) ⊎ (after ≡ greatest)
