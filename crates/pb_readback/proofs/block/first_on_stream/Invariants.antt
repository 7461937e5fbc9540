use Rattle.std.specs.List.{position_or_len}
use Rattle.std.proofs.Common.{◌≡◌, ◌+◌, drop}
use Rattle.pb_readback.specs.Reading.{is_on_stream}
use Rattle.pb_readback.proofs.block.first_on_stream.Given as goal

abbrev pub invariant-loop-place : goal.invariant-loop-place
invariant-loop-place l =
    position_or_len (is_on_stream l.stream) l.results ≡ l.place + position_or_len (is_on_stream l.stream) (drop l.place l.results)
