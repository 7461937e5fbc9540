use Rattle.std.proofs.lemmas.Result.{err_from_is_err_and}
use Rattle.pb_readback.proofs.FormedLemmas.{formed_holds}
use Rattle.pb_readback.proofs.ReadingLemmas.{found_from, tells_from}
use Rattle.pb_readback.proofs.reading.read.Goals as goal

pub returns-clause-formed : goal.returns-clause-formed
returns-clause-formed c =
    formed_holds c.args.records.now.left c.block_from.new.records.left c.in_ok-block_from.field-0
    (found_from c.args.records.now.left c.first_row.new.records.left c.block_from.new.records.left c.in-Some.row c.in_ok-block_from.field-0
    (rw c.in-Some.is at c.in_ok-row.ensures.skips) c.in_ok-block_from.ensures.ok)

pub returns-in_err-block_from-clause-refused : goal.returns-in_err-block_from-clause-refused
returns-in_err-block_from-clause-refused c =
    let p = err_from_is_err_and c.from_residual-in_err-block_from.result c.from_residual-in_err-block_from.ensures.1 in
    rw (p.1, p.2)
    (tells_from c.args.records.now c.first_row.new.records c.block_from.new.records c.in-Some.row _ (rw c.in-Some.is at c.in_ok-row.ensures.skips) c.in_ok-row.ensures.counted
    c.in_err-block_from.ensures.err)
