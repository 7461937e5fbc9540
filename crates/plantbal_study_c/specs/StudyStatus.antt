-- Statement. How a call of a study from C ended: the numbers of the statuses.
use Rattle.std.specs.Prelude.{ℕ}

-- everything was done
abbrev pub study_done : ℕ
study_done = 0

-- an argument is outside its limits, and nothing was done
abbrev pub study_usage : ℕ
study_usage = 2

-- memory ran out
abbrev pub study_no_memory : ℕ
study_no_memory = 6

-- the handle holds no study or, for the call that makes one, it already holds one; nothing was done
abbrev pub study_bad_handle : ℕ
study_bad_handle = 7

-- there is nothing at this place, and nothing was written
abbrev pub study_not_there : ℕ
study_not_there = 9

-- a stream isn't one of a process graph, and nothing was done
abbrev pub study_bad_stream : ℕ
study_bad_stream = 10
