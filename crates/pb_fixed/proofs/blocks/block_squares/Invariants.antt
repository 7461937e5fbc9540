use Rattle.std.proofs.Common.{◌≡◌, pos, ◌*◌, ◌^◌, ◌≤ℤ◌, take}
use Rattle.pb_fixed.specs.Blocks.{block_squares_of}
use Rattle.pb_fixed.proofs.blocks.block_squares.Given as goal

abbrev pub invariant-loop-item : goal.invariant-loop-item
invariant-loop-item l = record {
  so_far : l.sum ≡ block_squares_of (take l.item-index l.items) l.h;
  nonneg : pos 0 ≤ℤ l.sum;
  small : l.sum ≤ℤ pos (l.item-index * 2 ^ 114);
}
