use Rattle.std.proofs.Common.{◌≡◌, ◌≤◌, ◌+◌, drop}
use Rattle.pb_report.specs.Summary.{class_count}
use Rattle.pb_report.proofs.summary.class_count.Given as goal

abbrev pub invariant-loop-result_of : goal.invariant-loop-result_of
invariant-loop-result_of l = record {
  most : l.count ≤ l.result_of-index;
  rest : l.count + class_count l.class (drop l.result_of-index l.results) ≡ class_count l.class l.results;
}
