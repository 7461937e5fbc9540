-- Inside. What holds of the points that a table keeps.
use Rattle.std.specs.Prelude.{◌≤◌, List, length, All}
use Rattle.pb_limits.specs.Limits.{most_points}
use Rattle.pb_limits.specs.Ranges.{IsLevel, IsVolume}
use Rattle.pb_strap.specs.declared.strap.Point.{Point}
use Rattle.pb_strap.specs.Table.{IsRising}

-- a point's level and volume are in range
pub record IsPoint (point : Point) : Type 0 where
  pub level : IsLevel point.mm
  pub volume : IsVolume point.ml

-- a table that a tank may have: not too many points, each in range, rising
pub record IsTable (points : List Point) : Type 0 where
  pub few : length points ≤ most_points
  pub each : All IsPoint points
  pub rising : IsRising points
