use Rattle.pb_audit.proofs.NextLemmas.{block_next, row_next}
use Rattle.pb_audit.proofs.judge.judge_next.Goals as goal

pub returns-in-Ok-clause-ok : goal.returns-in-Ok-clause-ok
returns-in-Ok-clause-ok c =
    block_next c.args.records.now c.read.new.records c.in-Ok-Some.block c.in-Ok.judged c.args.out.now.items c.judge_block.new.out.items (rw c.in-Ok-Some.field-0-is at c.in-Ok-Some.ensures.next)
    c.in-Ok-Some.ensures.counted c.in-Ok.ensures.ok

pub returns-in-Err-At-clause-ok : goal.returns-in-Err-At-clause-ok
returns-in-Err-At-clause-ok c =
    let told = rw c.in-Err-At.field-0-is at c.in-Err-At.ensures.refused in
    row_next c.args.records.now c.read.new.records c.in-Err-At.row c.in-Err-At.fault c.args.out.now.items c.write_unreadable.new.out.items told.0 told.1
    c.in_ok-write_unreadable-in-Err-At.ensures.ok
