use Rattle.std.proofs.Common.{◌≡◌, ℕ, ◌<◌, [], get_or, vec_len}
use Rattle.pb_dual.proofs.border.no_borders.Given as goal

abbrev pub invariant-loop-k : goal.invariant-loop-k
invariant-loop-k l = record { each : vec_len l.borders ≡ l._k; none : (k : ℕ) → k < l._k → get_or l.borders.items k [] ≡ [] }
