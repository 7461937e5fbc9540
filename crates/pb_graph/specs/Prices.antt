-- Statement. Prices of the nodes, in units of 2^-56 per gram: half of what one more gram of imbalance at a node costs in
-- weighted squares (the dual variables, or potentials, of the balances: Rockafellar, Network Flows and Monotropic Optimization,
-- chapter 1).
use Rattle.std.specs.Prelude.{◌≡◌, ℕ, ◌^◌, ◌<◌, ◌≤◌, ℤ, pos, ◌-ℤ◌, ◌*ℤ◌, unsigned_abs, All, IfSome}
use Rattle.pb_limits.specs.Limits.{most_price}
use Rattle.pb_graph.specs.declared.records.Stream.{Stream}
use Rattle.pb_graph.specs.ProcessGraph.{ProcessGraph}
use Rattle.pb_graph.specs.Groups.{SameGroup, IsFreeGroup}

-- the greatest adjustment of a measured flow, in units of 2^-56 grams, either way
abbrev pub most_adjustment : ℕ
most_adjustment = 2 ^ 112

-- how much the price rises from the node where a stream begins to the node where it ends
abbrev pub rise_of : (ℕ → ℤ) → Stream → ℤ
rise_of price stream = price stream.to -ℤ price stream.from

-- the adjustment of a measured flow, which is its variance times the rise of the price along the stream, is within its limit
abbrev pub IsInBox : (ℕ → ℤ) → Stream → Type 0
IsInBox price stream = IfSome stream.meas (λ meas. unsigned_abs (meas.variance *ℤ rise_of price stream) ≤ most_adjustment)

-- Prices fit if the nodes of a group share a price, nodes of groups that aren't free have price 0, each price is within its
-- limit, and every measured stream is in the box.
pub record PricesFit (graph : ProcessGraph) (price : ℕ → ℤ) : Type 0 where
  pub shared : (a b : ℕ) → a < graph.nodes → b < graph.nodes → SameGroup graph.streams a b → price a ≡ price b
  pub fixed : (n : ℕ) → n < graph.nodes → (IsFreeGroup graph n → ⊥) → price n ≡ pos 0
  pub within : (n : ℕ) → n < graph.nodes → unsigned_abs (price n) ≤ most_price
  pub box : All (IsInBox price) graph.streams
