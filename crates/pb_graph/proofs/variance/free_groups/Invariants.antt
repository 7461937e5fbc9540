use Rattle.std.proofs.Common.{◌≡◌, ℕ, ◌<◌, ◌==◌, not, false, pos, get_or, vec_len}
use Rattle.std.specs.Prelude.{◌&&◌, int_lt}
use Rattle.pb_graph.proofs.variance.free_groups.Given as goal

abbrev pub invariant-loop-k : goal.invariant-loop-k
invariant-loop-k l = record {
  each : vec_len l.free ≡ l.k;
  value : (j : ℕ) → j < l.k → get_or l.free.items j false ≡ (not (0 == j) && int_lt (pos 0) (get_or l.variance j (pos 0)));
}
