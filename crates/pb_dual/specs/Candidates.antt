-- Statement. The candidates for the price of one group, and the best candidate.
use Rattle.std.specs.Prelude.{◌==◌, ℕ, ℤ, pos, neg_ℤ, ◌+ℤ◌, ◌-ℤ◌, List, [], ◌∷◌, Option, Some, None, if◌then◌else◌}
use Rattle.std.specs.Int.{int_max, int_min}
use Rattle.pb_limits.specs.Limits.{most_price}
use Rattle.pb_fixed.specs.Quotients.{floor_div}
use Rattle.pb_graph.specs.declared.records.Meas.{Meas}
use Rattle.pb_graph.specs.declared.records.Stream.{Stream}
use Rattle.pb_graph.specs.Groups.{group_at, has_one_end}
use Rattle.pb_graph.specs.Prices.{most_adjustment}
use Rattle.pb_dual.specs.DualValue.{dual_value}
use Rattle.pb_dual.specs.Moves.{with_price}
use Rattle.pb_dual.specs.Best.{best}

-- the most by which the prices at the ends of a stream of this variance may differ
abbrev pub room_of : ℤ → ℤ
room_of variance = floor_div (pos most_adjustment) variance

-- the price at the other end of a stream with exactly one end in group k
abbrev pub other_price : List ℕ → (ℕ → ℤ) → ℕ → Stream → ℤ
other_price group price k s = if group_at group s.to == k then price s.from else price s.to

-- a lower bound of a price, raised to what a stream with this price at its other end allows
abbrev pub raised : Option Meas → ℤ → ℤ → ℤ
raised None other lo = lo
raised (Some m) other lo = int_max lo (other -ℤ room_of m.variance)

-- an upper bound, lowered in the same way
abbrev pub lowered : Option Meas → ℤ → ℤ → ℤ
lowered None other hi = hi
lowered (Some m) other hi = int_min hi (other +ℤ room_of m.variance)

-- the bounds after one more stream, which changes them only if it has exactly one end in the group
abbrev pub raised_at : List ℕ → (ℕ → ℤ) → ℕ → Stream → ℤ → ℤ
raised_at group price k s lo = if has_one_end group k s then raised s.meas (other_price group price k s) lo else lo

abbrev pub lowered_at : List ℕ → (ℕ → ℤ) → ℕ → Stream → ℤ → ℤ
lowered_at group price k s hi = if has_one_end group k s then lowered s.meas (other_price group price k s) hi else hi

abbrev pub low_from : List ℕ → (ℕ → ℤ) → ℕ → ℤ → List Stream → ℤ
low_from group price k lo [] = lo
low_from group price k lo (s ∷ ss) = low_from group price k (raised_at group price k s lo) ss

abbrev pub high_from : List ℕ → (ℕ → ℤ) → ℕ → ℤ → List Stream → ℤ
high_from group price k hi [] = hi
high_from group price k hi (s ∷ ss) = high_from group price k (lowered_at group price k s hi) ss

-- The candidates for the price of group k, with the other prices held, are the whole numbers from the least candidate to the greatest.
abbrev pub least_candidate : List ℕ → (ℕ → ℤ) → ℕ → List Stream → ℤ
least_candidate group price k ss = low_from group price k (neg_ℤ (pos most_price)) ss

abbrev pub greatest_candidate : List ℕ → (ℕ → ℤ) → ℕ → List Stream → ℤ
greatest_candidate group price k ss = high_from group price k (pos most_price) ss

-- The best price of group k, with the other prices held: the least candidate with the greatest dual value.
abbrev pub best_price : List ℕ → (ℕ → ℤ) → ℕ → List Stream → ℤ
best_price group price k ss =
    best (λ c. dual_value (with_price group price k c) ss) (least_candidate group price k ss) (greatest_candidate group price k ss)
