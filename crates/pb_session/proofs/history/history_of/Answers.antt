use Rattle.std.proofs.Common.{◌∙◌, ◌+◌, ◌<◌, List, length, sym, subst, arith}
use Rattle.pb_kinds.specs.declared.rows.StoredRow.{StoredRow}
use Rattle.pb_book.specs.Edits.{edits_of}
use Rattle.pb_session.proofs.HistoryLemmas.{AreFound, one_found, passed_over}
use Rattle.pb_session.proofs.history.history_of.Goals.{then-touches+in_ok-push_at, else-touches}
use Rattle.pb_session.proofs.history.history_of.Goals as goal

pub loop-e-preserved : goal.loop-e-preserved
loop-e-preserved c =
    let rows = c.args.book.now in
    let i = c.args.i in
    let e = c.loop-e.e in
    let within : e < length (edits_of rows) = omega (arith, c.loop-e-test.true, c.loop-e.invariant.end) in
    record {
      so_far = elim c.if-touches.branch [
        | then-touches+in_ok-push_at w ↦
            subst (λ (es : List StoredRow). AreFound rows i es (e + 1)) (sym (w.edits-is ∙ w.in_ok-push_at.ensures))
            (one_found rows e i c.loop-e.edits within (sym c.touches.ensures ∙ w.if-touches.true) c.loop-e.invariant.so_far)
        | else-touches w ↦
            subst (λ (es : List StoredRow). AreFound rows i es (e + 1)) (sym w.edits-is)
            (passed_over rows e i c.loop-e.edits within (sym c.touches.ensures ∙ w.if-touches.false) c.loop-e.invariant.so_far)
      ];
      end = c.loop-e.invariant.end;
    }
