use Rattle.std.proofs.Common.{length, ◌<◌, rules}
use Rattle.pb_study.specs.WellFormed.{IsWellFormed}
use Rattle.pb_report.proofs.BlockLemmas.{holds_at}
use Rattle.pb_report.proofs.StudyLemmas.{first_round, named_at, one_round}
use Rattle.pb_report.proofs.study.write_stages.Goals as goal

pub loop-i-preserved : goal.loop-i-preserved
loop-i-preserved c =
    let within : c.loop-i.i < length c.args.study.now.taken = search rules in
    one_round c.args.names.now c.args.period.now c.args.options.now c.args.output.now c.loop-i.output c.push.new.self c.write_block-in-loop-i.new.output _ c.as_slice-suspect-items.result.now c.args.study.now.taken c.args.study.now.stages c.loop-i.i _ c.at-in-loop-i.result.now _ c.as_slice-suspect-items.ensures within c.at-in-loop-i.ensures c.loop-i.invariant c.taken_values-values.ensures c.in_ok-push.ensures c.in_ok-write_block-2.ensures

pub write_block-requires-in-loop-i-clause-formed : goal.write_block-requires-in-loop-i-clause-formed
write_block-requires-in-loop-i-clause-formed c =
    holds_at IsWellFormed c.args.study.now.stages _ c.at-in-loop-i.result.now c.requires.formed.stages c.at-in-loop-i.ensures

pub loop-i-init : goal.loop-i-init
loop-i-init c = first_round c.args.names.now c.args.period.now c.args.options.now c.args.output.now c.write_block.new.output c.args.study.now.taken c.args.study.now.stages c.at.result.now c.at.ensures c.in_ok-write_block.ensures

pub write_block-requires-in-loop-i-clause-named : goal.write_block-requires-in-loop-i-clause-named
write_block-requires-in-loop-i-clause-named c =
    named_at c.args.names.now c.requires.graph c.args.study.now.stages _ c.at-in-loop-i.result.now c.requires.named c.requires.formed.shapes c.at-in-loop-i.ensures
