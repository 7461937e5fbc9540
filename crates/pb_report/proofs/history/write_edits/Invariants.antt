use Rattle.std.proofs.Common.{map, drop}
use Rattle.pb_report.specs.History.{edit_row}
use Rattle.pb_report.specs.Output.{IsUnderWay}
use Rattle.pb_report.proofs.history.write_edits.Given as goal

abbrev pub invariant-loop-edit : goal.invariant-loop-edit
invariant-loop-edit l = IsUnderWay l.fn.output l.output (map edit_row l.edits) (map edit_row (drop l.edit-index l.edits))
