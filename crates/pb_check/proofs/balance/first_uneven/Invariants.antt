use Rattle.std.proofs.Common.{ℕ, ◌<◌}
use Rattle.pb_check.specs.Places.{IsEvenAt}
use Rattle.pb_check.proofs.balance.first_uneven.Given as goal

-- the nodes so far balance
abbrev pub invariant-loop-node : goal.invariant-loop-node
invariant-loop-node l = (k : ℕ) → k < l.node → IsEvenAt l.stage k
