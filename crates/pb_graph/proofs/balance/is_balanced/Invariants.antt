use Rattle.std.proofs.Common.{◌≡◌, ℕ, ◌<◌, pos}
use Rattle.pb_graph.specs.Balance.{net_of}
use Rattle.pb_graph.proofs.balance.is_balanced.Given as goal

-- the nodes so far balance
abbrev pub invariant-loop-node : goal.invariant-loop-node
invariant-loop-node l = (k : ℕ) → k < l.node → net_of k l.streams l.flows ≡ pos 0
