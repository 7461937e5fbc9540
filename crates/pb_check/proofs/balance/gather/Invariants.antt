use Rattle.std.proofs.Common.{◌≡◌, ℕ, ◌*◌, ◌^◌, ◌≤◌, ◌+ℤ◌, unsigned_abs, length, drop}
use Rattle.pb_fixed.specs.Sums.{item}
use Rattle.pb_graph.specs.Balance.{net_of}
use Rattle.pb_stage.specs.Printed.{printed_flows}
use Rattle.pb_check.proofs.balance.gather.Given as goal

-- what is gathered and the net flows of the remaining streams make the net flows of all
abbrev pub invariant-loop-j : goal.invariant-loop-j
invariant-loop-j l = record {
  each : length l.nets ≡ l.stage.graph.nodes;
  so_far : (n : ℕ) → item l.nets n +ℤ net_of n (drop l.j l.stage.graph.streams) (drop l.j (printed_flows l.stage))
      ≡ net_of n l.stage.graph.streams (printed_flows l.stage);
  small : (n : ℕ) → unsigned_abs (item l.nets n) ≤ l.j * 2 ^ 69;
}
