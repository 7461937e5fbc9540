use Rattle.std.proofs.Common.{arith}
use Rattle.pb_make.specs.Plant.{side_at}
use Rattle.pb_make.proofs.RowsLemmas.{item_more}
use Rattle.pb_make.proofs.plant.side_streams.Goals as goal

pub loop-k-preserved : goal.loop-k-preserved
loop-k-preserved c =
    let number = c.args.draws.now.state in
    let inv = c.loop-k.invariant in
    let place = c.loop-k._k in
    record {
      so_far = item_more (side_at number c.args.units) 0 place place c.loop-k.sides.items c.push.new.self.items c.next_side.result c.in_ok-push.ensures.items inv.so_far
          (c.next_side.ensures.value number place inv.state) (omega arith);
      state = c.next_side.ensures.state number place inv.state;
    }
