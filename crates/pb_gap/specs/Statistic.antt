-- Statement. The statistic: what the least weighted squares are at least, and at most, in thousandths (the objective function
-- statistic of the global test: Narasimhan and Jordache).
use Rattle.std.specs.Prelude.{◌^◌, ℤ, pos, ◌+ℤ◌, ◌-ℤ◌, ◌*ℤ◌, int_lt, nat_lt, unsigned_abs, List, Option, Some, None, if◌then◌else◌}
use Rattle.std.specs.Int.{int_max, int_min}
use Rattle.std.specs.List.{list_any}
use Rattle.pb_fixed.specs.Sums.{sum_over}
use Rattle.pb_fixed.specs.Quotients.{floor_div, ceil_div}
use Rattle.pb_fixed.specs.Roots.{scaled_root_of}
use Rattle.pb_graph.specs.declared.records.Meas.{Meas}
use Rattle.pb_graph.specs.declared.records.Stream.{Stream}
use Rattle.pb_graph.specs.Squares.{by_stream}
use Rattle.pb_gap.specs.Gap.{Gap, gap_size}

-- how far the flow p of a measurement is from its value, in units of 2^-40 gram
abbrev pub adjustment_at : Meas → ℤ → ℤ
adjustment_at m p = pos (unsigned_abs (p -ℤ m.value)) *ℤ pos (2 ^ 40)

-- the same in standard deviations, in units of 2^-20, rounded down and rounded up; 0 if there is no measurement
abbrev pub adjustment_below : Option Meas → ℤ → ℤ
adjustment_below None p = pos 0
adjustment_below (Some m) p = floor_div (adjustment_at m p) (scaled_root_of m.variance +ℤ pos 1)

abbrev pub adjustment_above : Option Meas → ℤ → ℤ
adjustment_above None p = pos 0
adjustment_above (Some m) p = ceil_div (adjustment_at m p) (scaled_root_of m.variance)

-- the adjustments of the flows of a list of streams, by either rounding
abbrev pub adjustments_by : (Option Meas → ℤ → ℤ) → List Stream → List ℤ → List ℤ
adjustments_by rounded ss ps = by_stream (λ s p. rounded s.meas p) ss ps

-- the most that an adjustment counts for
abbrev pub adjustment_cap : ℤ
adjustment_cap = pos (2 ^ 52)

-- the sum of the squares of adjustments, each capped at the most that it counts for
abbrev pub capped_squares : List ℤ → ℤ
capped_squares bs = sum_over (λ b. int_min b adjustment_cap *ℤ int_min b adjustment_cap) bs

abbrev pub full_squares : List ℤ → ℤ
full_squares bs = sum_over (λ (b : ℤ). b *ℤ b) bs

-- The low end: a thousand times the squares of the adjustments less the square of the gap, rounded down, and at least 0. It is 0 if
-- the gap is above 2^57.
abbrev pub low_of : List Stream → List ℤ → Gap → ℤ
low_of ss ps gap =
    if nat_lt (2 ^ 57) (gap_size gap) then pos 0
    else int_max (pos 0) (floor_div (pos 1000 *ℤ (capped_squares (adjustments_by adjustment_below ss ps) -ℤ (pos (gap_size gap) *ℤ pos (gap_size gap)))) (pos (2 ^ 40)))

-- The high end: a thousand times the squares of the adjustments, rounded up. There is none if an adjustment is above the cap.
abbrev pub high_of : List Stream → List ℤ → Option ℤ
high_of ss ps =
    if list_any (λ b. int_lt adjustment_cap b) (adjustments_by adjustment_above ss ps) then None
    else Some (ceil_div (pos 1000 *ℤ full_squares (adjustments_by adjustment_above ss ps)) (pos (2 ^ 40)))

abbrev pub statistic_of : List Stream → List ℤ → Gap → ℤ × Option ℤ
statistic_of ss ps gap = (low_of ss ps gap, high_of ss ps)
