use Rattle.std.proofs.Common.{map, drop}
use Rattle.pb_report.specs.Advice.{meter_row}
use Rattle.pb_report.specs.Output.{IsUnderWay}
use Rattle.pb_report.proofs.advice.write_meters.Given as goal

abbrev pub invariant-loop-meter : goal.invariant-loop-meter
invariant-loop-meter l = IsUnderWay l.fn.output l.output (map (meter_row l.names) l.meters) (map (meter_row l.names) (drop l.meter-index l.meters))
