use Rattle.std.proofs.Common.{◌≡◌}
use Rattle.std.specs.Prelude.{map}
use Rattle.std.specs.List.{range_with_len}
use Rattle.pb_make.specs.Plant.{line_stream}
use Rattle.pb_make.proofs.plant.made_streams.Given as goal

-- the streams of the line so far
abbrev pub invariant-loop-k : goal.invariant-loop-k
invariant-loop-k l = l.streams.items ≡ map (line_stream l.units l.sides) (range_with_len 1 l.k)
