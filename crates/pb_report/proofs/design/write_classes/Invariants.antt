use Rattle.std.proofs.Common.{◌≡◌, drop}
use Rattle.pb_report.specs.Design.{class_row}
use Rattle.pb_report.specs.Output.{IsUnderWay}
use Rattle.pb_report.specs.Rows.{rows_with}
use Rattle.pb_report.proofs.design.write_classes.Given as goal

abbrev pub invariant-loop-id : goal.invariant-loop-id
invariant-loop-id l = record {
  certificates : l.certificates ≡ l.names;
  streams : l.stream-items ≡ l.graph.streams;
  way : IsUnderWay l.fn.output l.output (rows_with (class_row l.names) 0 l.graph.streams l.classes) (rows_with (class_row l.names) l.id (drop l.id l.graph.streams) (drop l.id l.classes));
}
