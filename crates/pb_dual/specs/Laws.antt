-- Statement. What is proved of candidates, best prices and sweeps.
use Rattle.std.specs.Prelude.{◌≡◌, ◌↔◌, ◌+◌, ℕ, suc, true, ℤ, ◌≤ℤ◌, List}
use Rattle.pb_graph.specs.ProcessGraph.{ProcessGraph, IsProcessGraph}
use Rattle.pb_graph.specs.Groups.{AreGroups, is_free_group}
use Rattle.pb_graph.specs.Prices.{PricesFit}
use Rattle.pb_dual.specs.DualValue.{dual_value}
use Rattle.pb_dual.specs.Moves.{with_price}
use Rattle.pb_dual.specs.Best.{IsBest}
use Rattle.pb_dual.specs.Candidates.{least_candidate, greatest_candidate, best_price}
use Rattle.pb_dual.specs.Sweeps.{prices_after}

-- prices of a graph that fit, one of whose free groups is k
pub record CanMove (g : ProcessGraph) (group : List ℕ) (price : ℕ → ℤ) (k : ℕ) : Type 0 where
  pub limits : IsProcessGraph g
  pub groups : AreGroups g group
  pub fit : PricesFit g price
  pub free : is_free_group group g.streams k ≡ true

-- the candidates for the price of a free group are exactly the numbers with which the prices fit
abbrev pub CandidateLaw : Type 0
CandidateLaw = (g : ProcessGraph) (group : List ℕ) (price : ℕ → ℤ) (k : ℕ) (c : ℤ) → CanMove g group price k
    → (((least_candidate group price k g.streams ≤ℤ c) × (c ≤ℤ greatest_candidate group price k g.streams)) ↔ PricesFit g (with_price group price k c))

-- the best price of a free group is the least candidate with the greatest dual value
abbrev pub BestLaw : Type 0
BestLaw = (g : ProcessGraph) (group : List ℕ) (price : ℕ → ℤ) (k : ℕ) → CanMove g group price k
    → IsBest (λ c. dual_value (with_price group price k c) g.streams) (least_candidate group price k g.streams) (greatest_candidate group price k g.streams) (best_price group price k g.streams)

-- after any number of sweeps the prices fit, and one more sweep doesn't lower the dual value
pub record Ascends (g : ProcessGraph) (group : List ℕ) (k : ℕ) : Type 0 where
  pub fit : PricesFit g (prices_after g group k)
  pub ascent : dual_value (prices_after g group k) g.streams ≤ℤ dual_value (prices_after g group (suc k)) g.streams

abbrev pub AscentLaw : Type 0
AscentLaw = (g : ProcessGraph) (group : List ℕ) (k : ℕ) → IsProcessGraph g → AreGroups g group → Ascends g group k

-- if a sweep of the prices after k sweeps gives the same prices, the prices after any number of further sweeps are the same
abbrev pub IdleLaw : Type 0
IdleLaw = (g : ProcessGraph) (group : List ℕ) (k n : ℕ) → prices_after g group (suc k) ≡ prices_after g group k → prices_after g group (n + k) ≡ prices_after g group k
