use Rattle.std.proofs.Common.{◌∙◌, ◌++◌, List, None, get_or, ap, sym, arith}
use Rattle.std.specs.Option.{option_to_list}
use Rattle.pb_graph.specs.declared.records.Stream.{Stream}
use Rattle.pb_dual.specs.declared.border.BorderStream.{BorderStream}
use Rattle.pb_dual.specs.Border.{seen_at}
use Rattle.pb_dual.proofs.BorderLemmas.{border_more}
use Rattle.pb_dual.proofs.border.add_all.Goals as goal

abbrev some_stream : Stream
some_stream = record { from = 0; to = 0; meas = None }

-- each group has its border with one more stream
pub loop-j-preserved : goal.loop-j-preserved
loop-j-preserved c k lt =
    let group = c.args.group.now in
    let ss = c.args.streams.now in
    let j = c.loop-j.j in
    c.in_ok-add_stream.ensures k (omega (arith, lt, c.loop-j.auto.borders))
    ∙ ap (λ (l : List BorderStream). l ++ option_to_list (seen_at group k j (get_or ss j some_stream))) (c.loop-j.invariant k lt)
    ∙ sym (border_more group k j ss some_stream c.loop-j-test.true)
