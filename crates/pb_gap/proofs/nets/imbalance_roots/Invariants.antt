use Rattle.std.proofs.Common.{◌≡◌, ◌<◌, ℕ, pos, length, get_or}
use Rattle.pb_fixed.specs.Sums.{item}
use Rattle.pb_gap.specs.Nets.{imbalance_root}
use Rattle.pb_gap.specs.Iterate.{IsSmallRoot}
use Rattle.pb_gap.proofs.nets.imbalance_roots.Given as goal

-- the groups so far have their roots
abbrev pub invariant-loop-k : goal.invariant-loop-k
invariant-loop-k l = record {
  each : length l.roots.items ≡ l.k;
  are : (j : ℕ) → j < l.k → item l.roots.items j ≡ imbalance_root (get_or l.groups.variance j (pos 0));
  small : (j : ℕ) → j < l.k → IsSmallRoot (item l.roots.items j);
}
