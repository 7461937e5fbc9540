use Rattle.std.proofs.Common.{◌≡◌, take}
use Rattle.std.specs.Prelude.{map}
use Rattle.pb_arrays.specs.Given.{given_stream}
use Rattle.pb_arrays.proofs.graphs.copy_streams.Given as goal

-- the first streams are written
abbrev pub invariant-loop-j : goal.invariant-loop-j
invariant-loop-j l = map given_stream (take l.j l.room) ≡ take l.j l.streams
