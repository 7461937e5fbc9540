use Rattle.std.proofs.Common.{◌≡◌, ◌*◌, ◌^◌, ◌≤◌, ◌+ℤ◌, unsigned_abs, drop}
use Rattle.pb_graph.specs.Balance.{net_of}
use Rattle.pb_graph.proofs.balance.net.Given as goal

-- the total and the net flow of the streams left make the net flow of all
abbrev pub invariant-loop-j : goal.invariant-loop-j
invariant-loop-j l = record {
  so_far : l.total +ℤ net_of l.node (drop l.j l.streams) (drop l.j l.flows) ≡ net_of l.node l.streams l.flows;
  small : unsigned_abs l.total ≤ l.j * 2 ^ 101;
}
