use Rattle.std.proofs.Common.{All, take}
use Rattle.std.specs.Prelude.{IfSome}
use Rattle.pb_study.specs.WellFormed.{IsMeasureWithin, IsWide}
use Rattle.pb_stage.specs.Drop.{AreMeasureTests}
use Rattle.pb_stage.proofs.measures.measure_tests.Given as goal

-- the streams so far have their tests
abbrev pub invariant-loop-stream : goal.invariant-loop-stream
invariant-loop-stream l = record {
  so_far : AreMeasureTests l.graph l.gap l.sweeps l.low l.high l.critical (take l.stream-index l.streams) l.tests;
  within : IsWide l.low → IfSome l.high IsWide → All (IsMeasureWithin l.graph) l.tests;
}
