use Rattle.std.proofs.Common.{◌≡◌, ◌∙◌, List, ℕ, true, length, sym, ap, arith}
use Rattle.pb_readback.proofs.ReadingLemmas.{over_more}
use Rattle.pb_readback.proofs.reading.first_row.Goals as goal

pub loop-row-preserved : goal.loop-row-preserved
loop-row-preserved c =
    let inv = c.loop-row.invariant in
    let taken = rw c.in-Some.is at c.in_ok-row.ensures.ok in
    let over : c.is_passed_over.result ≡ true = grind (arith, c.if-not-is_passed_over.false) in
    let long = ap (λ (rows : List (List (List ℕ))). length rows) taken.0 in
    let count = inv.counted in
    let one = taken.1 in
    record {
      over = over_more _ _ _ _ inv.over taken.0 (sym c.is_passed_over.ensures ∙ over);
      counted = omega (arith, long, one, count);
    }
