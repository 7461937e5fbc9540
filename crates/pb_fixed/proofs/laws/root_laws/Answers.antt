use Rattle.pb_fixed.specs.Roots.{root_floor_of}
use Rattle.pb_fixed.proofs.RootLaws.{root_ceil_is, root_ceil_mono, root_ceil_only, root_floor_greatest, root_floor_is, root_floor_mono, root_floor_only, scaled_root_is, scaled_root_mono, scaled_root_only}
use Rattle.pb_fixed.proofs.laws.root_laws.Goals as goal

pub returns : goal.returns
returns c = record {
  floor = root_floor_is;
  floor_only = root_floor_only;
  floor_greatest = λ n s le. root_floor_greatest n (root_floor_of n) s (root_floor_is n) le;
  floor_mono = root_floor_mono;
  ceiling = root_ceil_is;
  ceiling_only = root_ceil_only;
  ceiling_mono = root_ceil_mono;
  scaled = scaled_root_is;
  scaled_only = scaled_root_only;
  scaled_mono = scaled_root_mono;
}
