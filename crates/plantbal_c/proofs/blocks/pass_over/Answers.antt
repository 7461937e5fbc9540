use Rattle.std.proofs.Common.{◌∙◌, ap, arith, sym}
use Rattle.pb_rows.specs.RecordsLeft.{RecordsLeft}
use Rattle.plantbal_c.proofs.BlockLemmas.{is_at, none_after}
use Rattle.plantbal_c.proofs.blocks.pass_over.Goals as goal

-- none is left before so many are passed over
pub returns-then-not-branch : goal.returns-then-not-branch
returns-then-not-branch c =
    let (none, same) = (rw c.if-not-branch.true at c.in_ok-fill.ensures.ok).0 in
    ap (λ (r : RecordsLeft). r.left) same ∙ none
    ∙ sym (none_after c.args.records.now.left c.turns.passed c.args.count (c.turns.invariant.left ∙ none) c.turns.invariant.within)

-- one more is passed over
pub turns-preserved : goal.turns-preserved
turns-preserved c =
    let (first, taken) = rw c.if-not-branch.false at c.in_ok-fill.ensures.ok in
    record {
      left = (is_at c.args.records.now.left c.turns.passed c.fill.new.row c.fill.new.self.left (c.turns.invariant.left ∙ first)).behind;
      within = omega (arith, c.turns-test.true);
    }
