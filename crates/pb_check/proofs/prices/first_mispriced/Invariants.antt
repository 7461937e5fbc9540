use Rattle.std.proofs.Common.{ℕ, ◌<◌}
use Rattle.pb_check.specs.Asked.{HasGroupPriceAt}
use Rattle.pb_check.proofs.prices.first_mispriced.Given as goal

-- the nodes so far have the prices of their groups
abbrev pub invariant-loop-node : goal.invariant-loop-node
invariant-loop-node l = (k : ℕ) → k < l.node → HasGroupPriceAt l.stage k
