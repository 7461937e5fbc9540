use Rattle.std.proofs.Common.{◌∙◌, List, set, get_or, None, ap}
use Rattle.pb_graph.specs.declared.records.Stream.{Stream}
use Rattle.pb_graph.proofs.UnmeasureLemmas.{bare, set-unmeasured}
use Rattle.pb_graph.proofs.graph.unmeasured.Goals as goal

pub returns : goal.returns
returns c =
    let ss = c.args.streams.now in
    let some : Stream = record { from = 0; to = 0; meas = None } in
    ap (λ (l : List Stream). set l c.args.stream_id (bare (get_or ss c.args.stream_id some))) c.in_ok-copy.ensures.items ∙ set-unmeasured ss c.args.stream_id some c.requires
