use Rattle.pb_cli.proofs.FindingLemmas.{cut_row}
use Rattle.pb_cli.proofs.TextLemmas.{any_err}
use Rattle.pb_cli.proofs.checks.judge_block.Goals as goal

-- the sink failed within the row
pub returns-in_err-write_all-clause-cut : goal.returns-in_err-write_all-clause-cut
returns-in_err-write_all-clause-cut g c =
    any_err c.from_residual-in_err-write_all.result _ (λ e same.
    cut_row c.args.records.now c.judge_next.new.records c.in_ok-judged.judged c.new-row.result.items c.judge_next.new.out.items c.as_slice.result.now (g.W.Sink.seen c.args.sink.now)
    (g.W.Sink.seen c.write_all.new.sink) c.in_ok-judged.ensures.ok c.new-row.ensures.items c.as_slice.ensures.value c.in_err-write_all.ensures.prefix)
