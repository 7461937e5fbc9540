use Rattle.std.proofs.Common.{◌≡◌, drop}
use Rattle.pb_report.specs.Block.{node_row}
use Rattle.pb_report.specs.Output.{IsUnderWay}
use Rattle.pb_report.specs.Rows.{rows_with}
use Rattle.pb_report.proofs.block.write_nodes.Given as goal

abbrev pub invariant-loop-node : goal.invariant-loop-node
invariant-loop-node l = record {
  names : l.name-items ≡ l.names;
  way : IsUnderWay l.fn.output l.output (rows_with (λ n name price. node_row name price) 0 l.names l.prices) (rows_with (λ n name price. node_row name price) l.node (drop l.node l.names) (drop l.node l.prices));
}
