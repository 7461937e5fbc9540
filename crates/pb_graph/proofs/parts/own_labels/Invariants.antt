use Rattle.std.proofs.Common.{◌≡◌, ℕ, ◌<◌, vec_len, get_or}
use Rattle.pb_graph.proofs.parts.own_labels.Given as goal

-- each node so far has itself
abbrev pub invariant-loop-node : goal.invariant-loop-node
invariant-loop-node l = record { each : vec_len l.labels ≡ l.node; own : (k : ℕ) → k < l.node → get_or l.labels.items k 0 ≡ k }
