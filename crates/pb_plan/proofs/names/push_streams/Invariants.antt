use Rattle.std.proofs.Common.{◌≡◌, ◌++◌, drop, map}
use Rattle.pb_plan.specs.Places.{stream_place}
use Rattle.pb_plan.proofs.names.push_streams.Given as goal

abbrev pub invariant-loop-stream : goal.invariant-loop-stream
invariant-loop-stream l =
    l.fn.places.items ++ map (stream_place l.plant l.periods) l.streams ≡ l.places.items ++ map (stream_place l.plant l.periods) (drop l.stream-index l.streams)
