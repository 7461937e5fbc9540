use Rattle.std.proofs.Common.{◌+◌, arith}
use Rattle.pb_make.specs.Plant.{line_stream}
use Rattle.pb_make.proofs.RowsLemmas.{item_more}
use Rattle.pb_make.proofs.plant.made_streams.Goals as goal

pub loop-k-preserved : goal.loop-k-preserved
loop-k-preserved c =
    item_more (line_stream c.args.units c.args.sides.now) 1 c.loop-k.k (c.loop-k.k + 1) c.loop-k.streams.items c.push.new.self.items c.line_stream.result c.in_ok-push.ensures.items
    c.loop-k.invariant c.line_stream.ensures (omega arith)
