use Rattle.std.proofs.Common.{◌+◌, arith}
use Rattle.pb_make.specs.Rows.{unit_row}
use Rattle.pb_make.proofs.RowsLemmas.{made_more}
use Rattle.pb_make.proofs.sessions.write_units.Goals as goal

pub loop-k-preserved : goal.loop-k-preserved
loop-k-preserved c =
    made_more unit_row 1 c.loop-k.k (c.loop-k.k + 1) c.args.text.now.items c.loop-k.text.items c.write_unit.new.text.items (omega arith) c.in_ok-write_unit.ensures.ok c.loop-k.invariant
