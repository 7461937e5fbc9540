-- Statement. Sweeps of best prices: coordinate ascent on the dual value, group by group (Bertsekas, Nonlinear Programming).
use Rattle.std.specs.Prelude.{ℕ, zero, suc, ℤ, pos, List, if◌then◌else◌}
use Rattle.pb_graph.specs.declared.records.Stream.{Stream}
use Rattle.pb_graph.specs.ProcessGraph.{ProcessGraph}
use Rattle.pb_graph.specs.Groups.{is_free_group, group_count}
use Rattle.pb_dual.specs.Moves.{with_price}
use Rattle.pb_dual.specs.Candidates.{best_price}

-- the prices after group k has been given its best price, if it is free
abbrev pub stepped : List ℕ → List Stream → (ℕ → ℤ) → ℕ → ℕ → ℤ
stepped group ss price k = if is_free_group group ss k then with_price group price k (best_price group price k ss) else price

-- the prices after each of the first n groups, in order, has been given its best price against the prices as they then are
abbrev pub swept : List ℕ → List Stream → (ℕ → ℤ) → ℕ → ℕ → ℤ
swept group ss price zero = price
swept group ss price (suc n) = stepped group ss (swept group ss price n) n

-- The prices after this many sweeps, each over all groups, starting from prices that are all 0.
abbrev pub prices_after : ProcessGraph → List ℕ → ℕ → ℕ → ℤ
prices_after g group zero = λ n. pos 0
prices_after g group (suc k) = swept group g.streams (prices_after g group k) (group_count group)
