use Rattle.std.proofs.Common.{◌<◌, ◌∙◌, length, set, ap, arith}
use Rattle.std.proofs.lemmas.List.{get_or_default}
use Rattle.std.proofs.lemmas.List.Edits.{map_over_more}
use Rattle.pb_graph.specs.Labels.{lowered}
use Rattle.pb_graph.proofs.parts.lower_all.Goals as goal

-- one more label is replaced
pub loop-label-preserved : goal.loop-label-preserved
loop-label-preserved c =
    let labels = c.loop-label.labels in
    let i = c.loop-label.label-index in
    let f = lowered c.args.high c.args.low in
    let within : i < length labels = omega arith in
    ap (set labels i) c.lower.ensures ∙ map_over_more f c.args.labels.now labels i _ c.loop-label-test.true c.loop-label.invariant (get_or_default labels i 0 _ within)
