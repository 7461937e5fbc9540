use Rattle.std.proofs.Common.{◌+◌, drop}
use Rattle.pb_report.specs.Output.{IsUnderWay}
use Rattle.pb_report.specs.Study.{round_rows, stage_rows}
use Rattle.pb_report.proofs.study.write_stages.Given as goal

abbrev pub invariant-loop-i : goal.invariant-loop-i
invariant-loop-i l =
    IsUnderWay l.fn.output l.output (stage_rows l.names l.period l.options l.study.taken l.study.stages)
    (round_rows l.names l.period l.options (l.i + 1) (drop l.i l.study.taken) (drop (l.i + 1) l.study.stages))
