use Rattle.std.proofs.Common.{length, ◌<◌, refl, rules}
use Rattle.pb_report.specs.Design.{class_row}
use Rattle.pb_report.proofs.OutputLemmas.{one_row}
use Rattle.pb_report.proofs.design.write_classes.Goals as goal

pub loop-id-preserved : goal.loop-id-preserved
loop-id-preserved c =
    let within : c.loop-id.id < length c.args.graph.now.streams = search rules in
    record {
      certificates = search rules;
      streams = search rules;
      way = one_row (class_row c.args.names.now) c.args.output.now c.loop-id.output c.write_class.new.output _ c.streams-stream-items.result.now c.args.graph.now.streams c.args.classes.now c.loop-id.id _ c.at.result.now _ c.streams-stream-items.ensures.value within c.at.ensures c.loop-id.invariant.way refl c.in_ok-write_class.ensures.adds;
    }
