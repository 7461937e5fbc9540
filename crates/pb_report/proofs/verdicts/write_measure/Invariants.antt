use Rattle.std.proofs.Common.{map, drop}
use Rattle.pb_report.specs.Output.{IsUnderWay}
use Rattle.pb_report.specs.Tests.{measure_row}
use Rattle.pb_report.proofs.verdicts.write_measure.Given as goal

abbrev pub invariant-loop-test : goal.invariant-loop-test
invariant-loop-test l = IsUnderWay l.fn.output l.output (map (measure_row l.names) l.tests) (map (measure_row l.names) (drop l.test-index l.tests))
