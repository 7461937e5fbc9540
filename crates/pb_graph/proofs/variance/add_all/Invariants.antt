use Rattle.std.proofs.Common.{◌≡◌, ℕ, ◌<◌, pos, length, get_or, take}
use Rattle.pb_graph.specs.Variance.{group_variance}
use Rattle.pb_graph.proofs.variance.add_all.Given as goal

-- each total has the variances of the streams so far
abbrev pub invariant-loop-stream : goal.invariant-loop-stream
invariant-loop-stream l = (k : ℕ) → k < length l.initial.totals → get_or l.totals k (pos 0) ≡ group_variance l.group k (take l.stream-index l.streams)
