use Rattle.std.proofs.Common.{ℕ, ℤ, pos, ◌+◌, ◌^◌, ◌<◌, ◌≤◌, ◌≤ℤ◌, get_or}
use Rattle.pb_fixed.specs.Blocks.{FitBlocks}
use Rattle.pb_fixed.proofs.blocks.block_exponent.Given as goal

abbrev pub invariant-loop-item : goal.invariant-loop-item
invariant-loop-item l = record {
  fit : (j : ℕ) (d : ℤ) → j < l.item-index → get_or l.items j d ≤ℤ pos (2 ^ (57 + l.most));
  least : (k : ℕ) → FitBlocks k l.items → l.most ≤ k;
}
