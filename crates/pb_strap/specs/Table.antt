-- Statement. Strapping tables: the volume of a tank at a level, and its grams (API Manual of Petroleum Measurement Standards,
-- chapter 2.2A, capacity tables).
use Rattle.std.specs.Prelude.{◌≡◌, ℕ, ◌+◌, ◌-◌, ◌*◌, ◌/◌, ◌^◌, ◌⊎◌, ◌++◌, nat_le, Bool, true, ◌&&◌, ◌||◌, if◌then◌else◌, ⊤, MatchOption, IsSome, IsSomeAnd, Contains, ℤ, pos, ◌+ℤ◌, ◌-ℤ◌, ◌*ℤ◌, ◌≤ℤ◌, ◌<ℤ◌, int_lt, int_le, List, [], ◌∷◌, length, slice_get, Option, Some, None}
use Rattle.std.specs.Option.{option_map, option_map_or}
use Rattle.pb_limits.specs.Limits.{most_density, most_points, most_volume}
use Rattle.pb_fixed.specs.Quotients.{IsFloor, floor_div}
use Rattle.pb_strap.specs.declared.strap.Point.{Point}

-- levels rise, and volumes don't fall
abbrev pub IsRising : List Point → Type 0
IsRising [] = Unit {0}
IsRising (p ∷ []) = Unit {0}
IsRising (p ∷ q ∷ rest) = (p.mm <ℤ q.mm) × (p.ml ≤ℤ q.ml) × IsRising (q ∷ rest)

-- whether a level and a volume may follow a point
abbrev pub is_above : ℤ → ℤ → Point → Bool
is_above mm ml p = int_lt p.mm mm && int_le p.ml ml

-- whether they may follow the last point of a table
abbrev pub rises : List Point → ℤ → ℤ → Bool
rises points mm ml = option_map_or (is_above mm ml) (slice_get points (length points - 1)) true

-- whether a table has as many points as it may have
abbrev pub is_full : List Point → Bool
is_full points = nat_le most_points (length points)

-- the volume at a level on the line through two points, rounded down
abbrev pub volume_between : Point → Point → ℤ → ℤ
volume_between p q mm = p.ml +ℤ floor_div ((q.ml -ℤ p.ml) *ℤ (mm -ℤ p.mm)) (q.mm -ℤ p.mm)

-- the volume at a level: on the line between the two neighbouring points; none outside the table
abbrev pub volume_of : List Point → ℤ → Option ℤ
volume_of [] mm = None
volume_of (p ∷ []) mm = if int_lt mm p.mm || int_lt p.mm mm then None else Some p.ml
volume_of (p ∷ q ∷ rest) mm =
    if int_lt mm p.mm then None
    else if int_le mm q.mm then Some (volume_between p q mm)
    else volume_of (q ∷ rest) mm

-- the grams at a level, for a density in grams per cubic metre, which is 10^6 ml: volume times density, rounded down
abbrev pub grams_of : List Point → ℤ → ℤ → Option ℤ
grams_of points mm density =
    option_map (λ volume. floor_div (volume *ℤ density) (pos (10 ^ 6))) (volume_of points mm)

-- the most grams that a tank can hold by its table
abbrev pub most_content : ℕ
most_content = most_volume * most_density / 10 ^ 6

-- ---- what the volume at a level means, without the walk over the table
-- the table is empty, or the level is below its first point or above its last
abbrev pub IsOutside : List Point → ℤ → Type 0
IsOutside points mm =
    MatchOption (slice_get points 0) ⊤ (λ p. mm <ℤ p.mm)
    ⊎ MatchOption (slice_get points (length points - 1)) ⊤ (λ q. q.mm <ℤ mm)

-- q comes right after p
abbrev pub AreNeighbours : List Point → Point → Point → Type 0
AreNeighbours points p q =
    (i : ℕ) × (slice_get points i ≡ Some p) × (slice_get points (i + 1) ≡ Some q)

-- v is the mean of two volumes, weighted by how near the level is to the other's level, rounded down
abbrev pub IsOnLine : Point → Point → ℤ → ℤ → Type 0
IsOnLine p q mm v = IsFloor ((p.ml *ℤ (q.mm -ℤ mm)) +ℤ (q.ml *ℤ (mm -ℤ p.mm))) (q.mm -ℤ p.mm) v

-- at a level between two neighbouring points the volume is on the line through them
abbrev pub IsLinear : List Point → ℤ → Option ℤ → Type 0
IsLinear points mm volume =
    (p q : Point) → AreNeighbours points p q → p.mm ≤ℤ mm → mm ≤ℤ q.mm
    → IsSomeAnd volume (λ v. IsOnLine p q mm v)

-- at a point's level the volume is the point's
abbrev pub IsExactAtPoints : List Point → ℤ → Option ℤ → Type 0
IsExactAtPoints points mm volume = (p : Point) → Contains points p → p.mm ≡ mm → volume ≡ Some p.ml

-- ---- laws
-- a table that grows by a point keeps its volumes
abbrev pub TableGrowsLaw : Type 0
TableGrowsLaw =
    (points : List Point) (mm ml level volume : ℤ) → rises points mm ml ≡ true
    → volume_of points level ≡ Some volume
    → volume_of (points ++ record { mm = mm; ml = ml } ∷ []) level ≡ Some volume

-- if the first points of a rising table give a volume at a level, the whole table gives the same volume
abbrev pub LongerTableLaw : Type 0
LongerTableLaw =
    (points more : List Point) (level : ℤ) → IsRising (points ++ more)
    → IsSome (volume_of points level)
    → volume_of (points ++ more) level ≡ volume_of points level

-- a higher level never holds less
abbrev pub HigherLevelLaw : Type 0
HigherLevelLaw =
    (points : List Point) (low high less more : ℤ) → IsRising points → low ≤ℤ high
    → volume_of points low ≡ Some less → volume_of points high ≡ Some more → less ≤ℤ more
