-- Inside. The bounds within which the streams of a made plant stay.
use Rattle.std.specs.Prelude.{◌≢◌, ℕ, ◌≤◌, ◌≤ℤ◌, pos}
use Rattle.pb_make.specs.declared.plant.MadeStream.{MadeStream}

-- the greatest flow of a side stream, in grams per day
abbrev pub most_side_grams : ℕ
most_side_grams = 10000000

-- a stream from one of this many units to another, or out of the plant, with a flow from 10^6 to 10^7 grams per day
pub record IsSide (units : ℕ) (side : MadeStream) : Type 0 where
  pub begins : 1 ≤ side.from
  pub within : side.from ≤ units
  pub ends : side.to ≤ units
  pub apart : side.from ≢ side.to
  pub least : pos 1000000 ≤ℤ side.truth
  pub most : side.truth ≤ℤ pos most_side_grams

-- a stream between two different nodes of a plant of this many units, with a flow from 1 to 10^11 grams per day
pub record IsMade (units : ℕ) (stream : MadeStream) : Type 0 where
  pub within : stream.from ≤ units
  pub ends : stream.to ≤ units
  pub apart : stream.from ≢ stream.to
  pub least : pos 1 ≤ℤ stream.truth
  pub most : stream.truth ≤ℤ pos 100000000000
