-- Statement. The ranges of the two numbers of a gap.
use Rattle.std.specs.Prelude.{◌^◌, ◌≤◌}
use Rattle.pb_gap.specs.declared.gap.Gap.{Gap}

-- a gap of at most 2^63 blocks, each of at most 2^32
pub record IsGapInRange (gap : Gap) : Type 0 where
  pub most_g : gap.g ≤ 2 ^ 63
  pub most_h : gap.h ≤ 32
