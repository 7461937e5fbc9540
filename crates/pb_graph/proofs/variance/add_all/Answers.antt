use Rattle.std.proofs.Common.{◌∙◌, pos, get_or, None, arith}
use Rattle.std.proofs.lemmas.List.{get_or_default}
use Rattle.pb_graph.specs.declared.records.Stream.{Stream}
use Rattle.pb_graph.proofs.VarianceLemmas.{variance_room, variance_more}
use Rattle.pb_graph.proofs.variance.add_all.Goals as goal

abbrev some_stream : Stream
some_stream = record { from = 0; to = 0; meas = None }

pub add_stream-requires-clause-room : goal.add_stream-requires-clause-room
add_stream-requires-clause-room c k d lt =
    let is = get_or_default c.loop-stream.totals k d (pos 0) lt ∙ c.loop-stream.invariant k (omega (arith, lt, c.loop-stream.auto.totals)) in
    rw is (variance_room c.args.group.now k c.loop-stream.stream-index c.args.streams.now c.requires.limits c.requires.few)

-- each total has the variance of one more stream
pub loop-stream-preserved : goal.loop-stream-preserved
loop-stream-preserved c k lt =
    variance_more c.args.group.now k c.loop-stream.stream-index c.args.streams.now some_stream (get_or c.loop-stream.totals k (pos 0)) (get_or c.add_stream.new.totals k (pos 0)) c.loop-stream-test.true
    (c.add_stream.ensures k (omega (arith, lt, c.loop-stream.auto.totals))) (c.loop-stream.invariant k lt)
