use Rattle.pb_make.proofs.PlantLemmas.{no_stream}
use Rattle.pb_make.proofs.RowsLemmas.{stream_next}
use Rattle.pb_make.proofs.sessions.write_streams.Goals as goal

pub loop-k-preserved : goal.loop-k-preserved
loop-k-preserved c =
    stream_next _ c.loop-k.text.items c.write_stream.new.text.items c.args.plant.now c.loop-k.k no_stream c.loop-k-test.true c.in_ok-write_stream.ensures.ok c.loop-k.invariant
