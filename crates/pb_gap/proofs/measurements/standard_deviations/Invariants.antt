use Rattle.std.proofs.Common.{◌≡◌, take}
use Rattle.pb_gap.specs.Gap.{standard_deviations_of}
use Rattle.pb_gap.proofs.measurements.standard_deviations.Given as goal

abbrev pub invariant-loop-stream : goal.invariant-loop-stream
invariant-loop-stream l = l.deviations.items ≡ standard_deviations_of (take l.stream-index l.streams)
