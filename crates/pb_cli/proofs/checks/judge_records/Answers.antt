use Rattle.std.proofs.Common.{◌≡◌, ◌∙◌, List, ℕ, ◌++◌, ap, subst, append-nil}
use Rattle.std.proofs.lemmas.Result.{err_from_is_err_and}
use Rattle.pb_io.specs.Sink.{Puts}
use Rattle.pb_io.proofs.PieceLemmas.{puts_more, stops_behind}
use Rattle.pb_audit.proofs.AuditLaws.{fewer_behind, nothing_left, some_found}
use Rattle.pb_cli.proofs.FindingLemmas.{fewer_failed, fewer_passed, found_all, found_cut, found_failed, found_passed, found_some, found_unreadable}
use Rattle.pb_cli.proofs.checks.judge_records.Goals as goal

-- the sink failed within the row of what is found next
pub returns-in_err-judge_block-clause-cut : goal.returns-in_err-judge_block-clause-cut
returns-in_err-judge_block-clause-cut g c =
    let (text, a, puts) = c.turns.invariant.so_far in
    let p = err_from_is_err_and c.from_residual.result c.from_residual.ensures.1 in
    rw (p.1, p.2) (λ e.
    let (piece, begun, more) = c.in_err-judge_block.ensures.cut e in (
      text ++ piece,
      found_cut some_found c.args.records.now.left c.turns.records c.turns.some_wrong text piece a begun,
      puts_more _ _ _ text piece puts more,
    ))

-- out of memory for the row
pub returns-in_err-judge_block-clause-some : goal.returns-in_err-judge_block-clause-some
returns-in_err-judge_block-clause-some g c =
    let (text, a, puts) = c.turns.invariant.so_far in
    let p = err_from_is_err_and c.from_residual.result c.from_residual.ensures.1 in
    rw (p.1, p.2) (λ e.
    (text, found_some some_found c.args.records.now.left c.turns.records c.turns.some_wrong text a, rw (c.in_err-judge_block.ensures.no_memory e) puts))

-- a row can't be read
pub returns-in-Some-Unreadable-clause-whole : goal.returns-in-Some-Unreadable-clause-whole
returns-in-Some-Unreadable-clause-whole g c =
    let (text, a, puts) = c.turns.invariant.so_far in
    let whole = rw (c.in-Some-Unreadable.is, c.in-Some-Unreadable.field-0-is) at c.in_ok-judge_block.ensures.whole in
    let (piece, next, more) = whole in (
      text ++ piece,
      found_unreadable nothing_left c.args.records.now.left c.turns.records c.judge_block.new.records c.turns.some_wrong text piece a next,
      puts_more _ _ _ text piece puts more,
    )

-- nothing more is found
pub returns-in-None-clause-whole : goal.returns-in-None-clause-whole
returns-in-None-clause-whole g c =
    let (text, a, puts) = c.turns.invariant.so_far in
    let whole = rw c.in-None.is at c.in_ok-judge_block.ensures.whole in
    let (piece, (nothing, empty), more) = whole in
    let same : text ++ piece ≡ text = ap (λ (t : List ℕ). text ++ t) empty ∙ append-nil text in (
      text,
      found_all c.args.records.now.left c.turns.records c.turns.some_wrong text a nothing,
      subst (λ (t : List ℕ). Puts (g.W.Sink.seen c.args.sink.now) (g.W.Sink.seen c.judge_block.new.sink) t) same (puts_more _ _ _ text piece puts more),
    )

-- no piece is put after a fault, whatever is found
pub returns-in_err-judge_block-clause-stops : goal.returns-in_err-judge_block-clause-stops
returns-in_err-judge_block-clause-stops g c = stops_behind (g.W.Sink.seen c.args.sink.now) (g.W.Sink.seen c.turns.sink) (g.W.Sink.seen c.judge_block.new.sink) c.turns.invariant.stops c.turns.invariant.faults c.judge_block.ensures.stops

pub returns-in-Some-Unreadable-clause-stops : goal.returns-in-Some-Unreadable-clause-stops
returns-in-Some-Unreadable-clause-stops g c = stops_behind (g.W.Sink.seen c.args.sink.now) (g.W.Sink.seen c.turns.sink) (g.W.Sink.seen c.judge_block.new.sink) c.turns.invariant.stops c.turns.invariant.faults c.judge_block.ensures.stops

pub returns-in-None-clause-stops : goal.returns-in-None-clause-stops
returns-in-None-clause-stops g c = stops_behind (g.W.Sink.seen c.args.sink.now) (g.W.Sink.seen c.turns.sink) (g.W.Sink.seen c.judge_block.new.sink) c.turns.invariant.stops c.turns.invariant.faults c.judge_block.ensures.stops

-- a block passes
pub turns-preserved-in-Some-Passed : goal.turns-preserved-in-Some-Passed
turns-preserved-in-Some-Passed g c =
    let (text, a, puts) = c.turns.invariant.so_far in
    let whole = rw (c.in-Some-Passed.is, c.in-Some-Passed.field-0-is) at c.in_ok-judge_block.ensures.whole in
    let (piece, next, more) = whole in
    let fewer = fewer_passed fewer_behind c.turns.records c.judge_block.new.records piece next in
    record {
      so_far = (text ++ piece, found_passed c.args.records.now.left c.turns.records c.judge_block.new.records c.turns.some_wrong text piece a next, puts_more _ _ _ text piece puts more);
      faults = c.in_ok-judge_block.ensures.no_fault ∙ c.turns.invariant.faults;
      idle = c.judge_block.ensures.idle ∙ c.turns.invariant.idle;
      stops = stops_behind (g.W.Sink.seen c.args.sink.now) (g.W.Sink.seen c.turns.sink) (g.W.Sink.seen c.judge_block.new.sink) c.turns.invariant.stops c.turns.invariant.faults c.judge_block.ensures.stops;
      few = fewer.same ∙ c.turns.invariant.few;
    }

-- or fails
pub turns-preserved : goal.turns-preserved
turns-preserved g c =
    let (text, a, puts) = c.turns.invariant.so_far in
    let whole = rw (c.in-Some-Failed.is, c.in-Some-Failed.field-0-is) at c.in_ok-judge_block.ensures.whole in
    let (piece, next, more) = whole in
    let fewer = fewer_failed fewer_behind c.turns.records c.judge_block.new.records piece next in
    record {
      so_far = (text ++ piece, found_failed c.args.records.now.left c.turns.records c.judge_block.new.records c.turns.some_wrong text piece a next, puts_more _ _ _ text piece puts more);
      faults = c.in_ok-judge_block.ensures.no_fault ∙ c.turns.invariant.faults;
      idle = c.judge_block.ensures.idle ∙ c.turns.invariant.idle;
      stops = stops_behind (g.W.Sink.seen c.args.sink.now) (g.W.Sink.seen c.turns.sink) (g.W.Sink.seen c.judge_block.new.sink) c.turns.invariant.stops c.turns.invariant.faults c.judge_block.ensures.stops;
      few = fewer.same ∙ c.turns.invariant.few;
    }
