use Rattle.std.proofs.Common.{length, ◌<◌, refl, rules}
use Rattle.pb_report.specs.Block.{result_row}
use Rattle.pb_report.proofs.OutputLemmas.{one_row}
use Rattle.pb_report.proofs.block.write_results.Goals as goal

pub loop-id-preserved : goal.loop-id-preserved
loop-id-preserved c =
    let within : c.loop-id.id < length c.args.graph.now.streams = search rules in
    record {
      certificates = search rules;
      streams = search rules;
      way = one_row (result_row c.args.names.now) c.args.output.now c.loop-id.output c.write_result.new.output _ c.streams-stream-items.result.now c.args.graph.now.streams c.args.results.now c.loop-id.id _ c.at.result.now _ c.streams-stream-items.ensures.value within c.at.ensures c.loop-id.invariant.way refl c.in_ok-write_result.ensures.adds;
    }
