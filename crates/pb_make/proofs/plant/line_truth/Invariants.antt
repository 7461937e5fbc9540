use Rattle.std.proofs.Common.{◌≡◌, ◌*◌, pos, take}
use Rattle.std.specs.Prelude.{◌+ℤ◌, ◌≤ℤ◌}
use Rattle.pb_make.specs.Bounds.{most_side_grams}
use Rattle.pb_make.specs.Plant.{line_grams}
use Rattle.pb_make.proofs.Abbreviations.{line_truth}
use Rattle.pb_make.proofs.plant.line_truth.Given as goal

-- the side streams so far are counted
abbrev pub invariant-loop-side : goal.invariant-loop-side
invariant-loop-side l = record {
  so_far : l.truth ≡ line_truth (take l.side-index l.sides) l.i;
  least : line_grams ≤ℤ (l.truth +ℤ pos (l.side-index * most_side_grams));
  most : l.truth ≤ℤ (line_grams +ℤ pos (l.side-index * most_side_grams));
}
