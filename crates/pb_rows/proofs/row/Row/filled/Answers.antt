use Rattle.std.proofs.Common.{◌≡◌, ◌∙◌, arith, ap, sym, true, false, length}
use Rattle.std.specs.Prelude.{◌==◌, ◌-◌, get_or, [], ℕ, List}
use Rattle.pb_rows.proofs.RowLemmas.{trailing_step, trailing_stop}
use Rattle.pb_rows.proofs.row.Row.filled.Goals as goal

pub loop-filled-preserved : goal.loop-filled-preserved
loop-filled-preserved c =
    let inv = c.loop-filled.invariant in
    let empty : (length (get_or c.args.self.now (c.loop-filled.filled - 1) []) == 0) ≡ true = ap (λ (f : List ℕ). length f == 0) (sym c.field.ensures) ∙ sym c.is_empty.ensures ∙ c.if-is_empty.true in
    record {
      within = omega arith;
      same = trailing_step c.args.self.now c.loop-filled.filled c.loop-filled-test.true inv.within empty ∙ inv.same;
    }

pub returns-else-is_empty-clause-filled : goal.returns-else-is_empty-clause-filled
returns-else-is_empty-clause-filled c =
    let inv = c.loop-filled.invariant in
    let full : (length (get_or c.args.self.now (c.loop-filled.filled - 1) []) == 0) ≡ false = ap (λ (f : List ℕ). length f == 0) (sym c.field.ensures) ∙ sym c.is_empty.ensures ∙ c.if-is_empty.false in
    trailing_stop c.args.self.now c.loop-filled.filled c.loop-filled-test.true inv.within full ∙ inv.same
