use Rattle.std.proofs.Common.{◌≡◌, ◌<◌, ℕ, pos, length, get_or}
use Rattle.pb_dual.proofs.dual.clear.Given as goal

-- the places so far have 0
abbrev pub invariant-loop-k : goal.invariant-loop-k
invariant-loop-k l = record {
  each : length l.prices ≡ length l.initial.prices;
  none : (j : ℕ) → j < l.k → get_or l.prices j (pos 0) ≡ pos 0;
}
