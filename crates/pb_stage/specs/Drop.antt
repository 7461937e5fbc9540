-- Statement. The test of one measurement: by how much the least weighted squares drop when it is left out (Narasimhan and Jordache, on
-- serial elimination).
use Rattle.std.specs.Prelude.{◌≡◌, ℕ, ℤ, pos, ◌-ℤ◌, List, length, Option, Some, None, slice_get}
use Rattle.std.specs.Int.{int_max}
use Rattle.pb_study.specs.declared.results.MeasureTest.{MeasureTest}
use Rattle.pb_graph.specs.ProcessGraph.{ProcessGraph, unmeasured_at}
use Rattle.pb_gap.specs.Solution.{IsSolvedStatistic}
use Rattle.pb_stage.specs.Verdicts.{measure_verdict}

-- a graph without the measurement of one stream
abbrev pub without_measurement : ℕ → ProcessGraph → ProcessGraph
without_measurement stream graph = record graph { streams = unmeasured_at stream graph.streams }

-- the low end of the drop, at least 0: the low end with the measurement less the high end without it; 0 if there is no high end
abbrev pub drop_low : ℤ → Option ℤ → ℤ
drop_low low None = pos 0
drop_low low (Some high_without) = int_max (pos 0) (low -ℤ high_without)

-- the high end of the drop: the high end with the measurement, if there is one, less the low end without it
abbrev pub drop_high : Option ℤ → ℤ → Option ℤ
drop_high None low_without = None
drop_high (Some high) low_without = Some (high -ℤ low_without)

-- The test of the measurement of a stream, in a graph whose statistic has these ends: the graph without the measurement is solved at the
-- same gap with as many sweeps, and the drop lies between its two ends.
pub record IsMeasureTestOf (graph : ProcessGraph) (gap sweeps : ℕ) (low : ℤ) (high critical : Option ℤ) (stream : ℕ) (test : MeasureTest) : Type 0 where
  pub low_without : ℤ
  pub high_without : Option ℤ
  pub statistic : IsSolvedStatistic (without_measurement stream graph) gap sweeps low_without high_without
  pub stream_is : test.stream ≡ stream
  pub low_is : test.low ≡ drop_low low high_without
  pub high_is : test.high ≡ drop_high high low_without
  pub critical_is : test.critical ≡ critical
  pub verdict_is : test.verdict ≡ measure_verdict test.low test.high critical

-- the tests of the measurements of a list of streams, one for each, in order
pub record AreMeasureTests (graph : ProcessGraph) (gap sweeps : ℕ) (low : ℤ) (high critical : Option ℤ) (streams : List ℕ) (tests : List MeasureTest) : Type 0 where
  pub each : length tests ≡ length streams
  pub right :
      (i stream : ℕ) (test : MeasureTest) → slice_get streams i ≡ Some stream
      → slice_get tests i ≡ Some test → IsMeasureTestOf graph gap sweeps low high critical stream test
