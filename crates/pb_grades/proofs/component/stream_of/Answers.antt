use Rattle.std.proofs.Common.{◌∙◌, option_map, Some, ap, sym}
use Rattle.pb_graph.specs.declared.records.Stream.{Stream}
use Rattle.pb_grades.specs.Component.{component_stream}
use Rattle.pb_grades.proofs.ComponentLemmas.{ends_at}
use Rattle.pb_grades.proofs.component.stream_of.Goals as goal

pub returns-clause-value : goal.returns-clause-value
returns-clause-value c =
    let s = c.stream-stream.result in
    ap (λ meas. let t : Stream = record { from = s.from; to = s.to; meas = meas } in Some t) c.in_ok-meas.ensures.value
    ∙ sym (ap (λ o. option_map (component_stream c.args.printed.now c.args.grade) o) c.stream-stream.ensures)

pub returns-clause-joins : goal.returns-clause-joins
returns-clause-joins c =
    let s = c.stream-stream.result in
    let ends = ends_at c.args.graph.now.nodes c.args.graph.now.streams c.args.j s c.requires.ends c.stream-stream.ensures in
    record { from = ends.from; to = ends.to; apart = ends.apart }
