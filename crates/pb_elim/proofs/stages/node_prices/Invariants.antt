use Rattle.std.proofs.Common.{◌≡◌, ℕ, ◌<◌, ◌≤◌, pos, All, length}
use Rattle.pb_fixed.specs.Sums.{item}
use Rattle.pb_graph.specs.WellFormed.{IsPrice}
use Rattle.pb_gap.specs.State.{price_in}
use Rattle.pb_elim.proofs.stages.node_prices.Given as goal

-- the nodes so far have their prices
abbrev pub invariant-loop-node : goal.invariant-loop-node
invariant-loop-node l = record {
  each : length l.prices ≡ l.node;
  value : (n : ℕ) → n < l.node → item l.prices n ≡ price_in l.solver n;
  within : All IsPrice l.prices;
  outside : 0 < l.node → (n : ℕ) → l.nodes ≤ n → price_in l.solver n ≡ pos 0;
}
