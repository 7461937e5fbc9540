use Rattle.pb_report.proofs.BlockLemmas.{block_written}
use Rattle.pb_report.proofs.block.write_block.Goals as goal

pub returns : goal.returns
returns c =
    block_written c.push-3.result c.args.names.now c.args.period.now c.args.options.now c.args.round c.args.stage.now c.args.output.now c.push.new.self c.write_nodes.new.output
    c.write_results.new.output c.push-2.new.self c.write_tests.new.output c.push-3.new.self _ _ _ c.report_values-opening.ensures c.in_ok-push.ensures c.in_ok-write_nodes.ensures
    c.in_ok-write_results.ensures c.solved_values.ensures c.in_ok-push-2.ensures c.in_ok-write_tests.ensures c.end_values.ensures c.push-3.ensures
