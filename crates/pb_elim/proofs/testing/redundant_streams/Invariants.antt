use Rattle.std.proofs.Common.{◌≡◌, ◌++◌, drop}
use Rattle.pb_stage.specs.StageTests.{redundant_from, redundant_streams}
use Rattle.pb_elim.proofs.testing.redundant_streams.Given as goal

abbrev pub invariant-loop-stream : goal.invariant-loop-stream
invariant-loop-stream l = l.streams ++ redundant_from l.stream (drop l.stream l.results) ≡ redundant_streams l.results
