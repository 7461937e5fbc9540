use Rattle.std.proofs.Common.{◌≡◌, ◌∙◌, ◌||◌, ℕ, ◌+◌, List, [], ◌++◌, drop, get_or, ap, refl, sym, subst}
use Rattle.std.proofs.lemmas.Result.{err_from_is_err_and}
use Rattle.pb_book.specs.Answer.{answer_of, is_refused}
use Rattle.pb_session.specs.Session.{Adds, SessionState, state_after}
use Rattle.pb_cli.specs.declared.answers.Stopped.TheVariants.{OutOfMemory, SinkFault}
use Rattle.pb_cli.specs.Prefix.{IsBeginningOf}
use Rattle.pb_io.proofs.PieceLemmas.{puts_more, puts_none, stops_behind}
use Rattle.pb_cli.proofs.TextLemmas.{Answered, all_answered, answered_more, answered_none, any_err, cut_short, next_at, none_left, stopped}
use Rattle.pb_cli.proofs.answers.answer_in.Goals as goal

pub turns-init : goal.turns-init
turns-init g c =
    let rows = c.args.records.now.left in
    let start = c.args.session.now.state in
    record {
      so_far = ([], answered_none start rows c.args.records.now.taken start c.requires.none_taken refl, puts_none (g.W.Sink.seen c.args.sink.now));
      left = ap (λ (k : ℕ). drop k rows) c.requires.none_taken;
      faults = refl;
      idle = refl;
      stops = λ _. refl;
    }

no_sink_fault : OutOfMemory ≡ SinkFault → ⊥
no_sink_fault e = cc e

-- running out of memory isn't a fault of the sink
pub returns-in_err-fill-clause-cut : goal.returns-in_err-fill-clause-cut
returns-in_err-fill-clause-cut g c =
    let p = err_from_is_err_and c.from_residual.result c.from_residual.ensures.1 in
    rw (p.1, p.2) (λ e. absurd (no_sink_fault e))

pub returns-in_err-fill-clause-cause : goal.returns-in_err-fill-clause-cause
returns-in_err-fill-clause-cause g c =
    let p = err_from_is_err_and c.from_residual.result c.from_residual.ensures.1 in
    rw (p.1, p.2) (λ e. absurd (no_sink_fault e))

pub returns-in_err-fill-clause-memory_no_fault : goal.returns-in_err-fill-clause-memory_no_fault
returns-in_err-fill-clause-memory_no_fault g c = any_err c.from_residual.result _ (λ e same. c.turns.invariant.faults)

pub returns-in_err-some_refused-clause-memory_no_fault : goal.returns-in_err-some_refused-clause-memory_no_fault
returns-in_err-some_refused-clause-memory_no_fault g c =
    let p = err_from_is_err_and c.from_residual-in_err-some_refused.result c.from_residual-in_err-some_refused.ensures.1 in
    rw (p.1, p.2) (λ e. rw (c.in_err-some_refused.ensures.no_memory e) c.turns.invariant.faults)

pub returns-in_err-some_refused-clause-cause : goal.returns-in_err-some_refused-clause-cause
returns-in_err-some_refused-clause-cause g c =
    let p = err_from_is_err_and c.from_residual-in_err-some_refused.result c.from_residual-in_err-some_refused.ensures.1 in
    rw (p.1, p.2, ← c.turns.invariant.faults) c.in_err-some_refused.ensures.cause

-- out of memory for the next record
pub returns-in_err-fill-clause-some : goal.returns-in_err-fill-clause-some
returns-in_err-fill-clause-some g c =
    let (text, a, puts) = c.turns.invariant.so_far in
    any_err c.from_residual.result _ (λ e same.
    (text, stopped c.args.session.now.state c.args.records.now.left c.turns.records.taken c.turns.session.state c.turns.some_refused text a, puts))

-- the sink failed within the text of this record
pub returns-in_err-some_refused-clause-cut : goal.returns-in_err-some_refused-clause-cut
returns-in_err-some_refused-clause-cut g c =
    let rows = c.args.records.now.left in
    let i = c.turns.records.taken in
    let state : SessionState = c.turns.session.state in
    let took = rw c.if-branch.true at c.in_ok-fill.ensures.ok in
    let next = next_at rows c.turns.records c.fill.new.self c.fill.new.row c.turns.invariant.left took in
    let at : c.taken-at.result ≡ i + 1 = c.taken-at.ensures ∙ next.place in
    let (text, a, puts) = c.turns.invariant.so_far in
    let p = err_from_is_err_and c.from_residual-in_err-some_refused.result c.from_residual-in_err-some_refused.ensures.1 in
    rw (p.1, p.2) (λ e.
    let (piece, begun, more) = c.in_err-some_refused.ensures.cut e in
    let there : IsBeginningOf (Adds state c.taken-at.result (get_or rows i [])) piece =
    subst (λ (r : List (List ℕ)). IsBeginningOf (Adds state c.taken-at.result r) piece) (sym next.here) begun in
    let here : IsBeginningOf (Adds state (i + 1) (get_or rows i [])) piece = subst (λ (k : ℕ). IsBeginningOf (Adds state k (get_or rows i [])) piece) at there in (
      text ++ piece,
      cut_short c.args.session.now.state rows i state c.turns.some_refused text piece next.within a here,
      puts_more _ _ _ text piece puts more,
    ))

-- out of memory for its text
pub returns-in_err-some_refused-clause-some : goal.returns-in_err-some_refused-clause-some
returns-in_err-some_refused-clause-some g c =
    let (text, a, puts) = c.turns.invariant.so_far in
    let p = err_from_is_err_and c.from_residual-in_err-some_refused.result c.from_residual-in_err-some_refused.ensures.1 in
    rw (p.1, p.2) (λ e.
    (text, stopped c.args.session.now.state c.args.records.now.left c.turns.records.taken c.turns.session.state c.turns.some_refused text a, rw (c.in_err-some_refused.ensures.no_memory e) puts))

-- no piece is put after a fault
pub returns-in_err-some_refused-clause-stops : goal.returns-in_err-some_refused-clause-stops
returns-in_err-some_refused-clause-stops g c = stops_behind (g.W.Sink.seen c.args.sink.now) (g.W.Sink.seen c.turns.sink) (g.W.Sink.seen c.answer_record.new.sink) c.turns.invariant.stops c.turns.invariant.faults c.answer_record.ensures.stops

-- one more record is answered
pub turns-preserved : goal.turns-preserved
turns-preserved g c =
    let rows = c.args.records.now.left in
    let i = c.turns.records.taken in
    let start = c.args.session.now.state in
    let state : SessionState = c.turns.session.state in
    let after : SessionState = c.answer_record.new.session.state in
    let took = rw c.if-branch.true at c.in_ok-fill.ensures.ok in
    let next = next_at rows c.turns.records c.fill.new.self c.fill.new.row c.turns.invariant.left took in
    let at : c.taken-at.result ≡ i + 1 = c.taken-at.ensures ∙ next.place in
    let (text, a, puts) = c.turns.invariant.so_far in
    let (piece, adds, more) = c.in_ok-some_refused.ensures.whole in
    let there : Adds state c.taken-at.result (get_or rows i []) piece = subst (λ (r : List (List ℕ)). Adds state c.taken-at.result r piece) (sym next.here) adds in
    let here : Adds state (i + 1) (get_or rows i []) piece = subst (λ (k : ℕ). Adds state k (get_or rows i []) piece) at there in
    let new_is : after ≡ state_after state (i + 1) (get_or rows i []) =
    c.in_ok-some_refused.ensures.stored ∙ ap (λ (k : ℕ). state_after state k c.fill.new.row) at ∙ ap (state_after state (i + 1)) (sym next.here) in
    let now_is = c.in_ok-some_refused.ensures.refused ∙ ap (λ (r : List (List ℕ)). is_refused (answer_of state.rows r)) (sym next.here) in
    let so_far = answered_more start rows i state after c.turns.some_refused _ text piece next.within a here new_is now_is in
    record {
      so_far = (text ++ piece, subst (λ (k : ℕ). Answered start rows k after (c.turns.some_refused || c.in_ok-some_refused.field-0) (text ++ piece)) (sym next.place) so_far, puts_more _ _ _ text piece puts more);
      left = next.behind;
      faults = c.in_ok-some_refused.ensures.no_fault ∙ c.turns.invariant.faults;
      idle = c.answer_record.ensures.idle ∙ c.turns.invariant.idle;
      stops = stops_behind (g.W.Sink.seen c.args.sink.now) (g.W.Sink.seen c.turns.sink) (g.W.Sink.seen c.answer_record.new.sink) c.turns.invariant.stops c.turns.invariant.faults c.answer_record.ensures.stops;
    }

-- all records are answered
pub returns-clause-refused : goal.returns-clause-refused
returns-clause-refused g c =
    let rows = c.args.records.now.left in
    let took = (rw c.if-branch.false at c.in_ok-fill.ensures.ok).0 in
    let (text, a, puts) = c.turns.invariant.so_far in
    (all_answered c.args.session.now.state rows c.turns.records.taken c.turns.session.state c.turns.some_refused text (none_left rows c.turns.records c.fill.new.self c.turns.invariant.left took) a).0

pub returns-clause-whole : goal.returns-clause-whole
returns-clause-whole g c =
    let rows = c.args.records.now.left in
    let took = (rw c.if-branch.false at c.in_ok-fill.ensures.ok).0 in
    let (text, a, puts) = c.turns.invariant.so_far in (
      text,
      (all_answered c.args.session.now.state rows c.turns.records.taken c.turns.session.state c.turns.some_refused text (none_left rows c.turns.records c.fill.new.self c.turns.invariant.left took) a).1,
      puts,
    )
