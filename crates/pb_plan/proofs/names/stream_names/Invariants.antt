use Rattle.std.proofs.Common.{◌≡◌, ◌++◌, drop, map}
use Rattle.pb_plan.specs.Codes.{stream_code}
use Rattle.pb_plan.proofs.names.stream_names.Given as goal

abbrev pub invariant-loop-stream : goal.invariant-loop-stream
invariant-loop-stream l = map stream_code l.streams ≡ l.names ++ map stream_code (drop l.stream-index l.streams)
