use Rattle.std.proofs.Common.{◌≡◌, ℕ, None, length, get_or}
use Rattle.pb_classify.proofs.cycles.no_cycles.Given as goal

-- no cycle so far
abbrev pub invariant-loop-stream : goal.invariant-loop-stream
invariant-loop-stream l = record {
  each : length l.cycles.items ≡ l._stream;
  none : (j : ℕ) → get_or l.cycles.items j None ≡ None;
}
