use Rattle.std.proofs.Common.{ℕ, ◌<◌}
use Rattle.pb_check.specs.Places.{IsRowAt}
use Rattle.pb_check.proofs.rows.rows_fault.Given as goal

-- the rows so far are their tests
abbrev pub invariant-loop-i : goal.invariant-loop-i
invariant-loop-i l = (k : ℕ) → k < l.i → IsRowAt l.rows l.rule k
