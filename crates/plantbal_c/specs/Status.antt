-- Statement. How a call from C ended: the numbers of the statuses.
use Rattle.std.specs.Prelude.{ℕ}

-- everything was done; of a run or a check, nothing is wrong
abbrev pub done : ℕ
done = 0

-- the same, and a record was refused or a block is wrong
abbrev pub done_refused : ℕ
done_refused = 1

-- an argument is outside its limits, and nothing was done with it
abbrev pub usage : ℕ
usage = 2

-- there are more bytes or more records than the limit
abbrev pub too_large : ℕ
too_large = 5

-- memory ran out
abbrev pub no_memory : ℕ
no_memory = 6

-- the handle holds no session or, for a call that makes one, it already holds one; nothing was done
abbrev pub bad_handle : ℕ
bad_handle = 7

-- the buffer is too small, and nothing was done
abbrev pub small_buffer : ℕ
small_buffer = 8

-- there is nothing at this place, or nothing of this name, and nothing was written
abbrev pub not_there : ℕ
not_there = 9

-- what is measured of a stream is above the limits of a graph
abbrev pub bad_stream : ℕ
bad_stream = 10
