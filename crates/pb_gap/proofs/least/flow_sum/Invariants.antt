use Rattle.std.proofs.Common.{◌≡◌, ◌*◌, ◌≤◌, ◌^◌, unsigned_abs, take}
use Rattle.pb_graph.specs.PricedSums.{signed_sum}
use Rattle.pb_gap.proofs.least.flow_sum.Given as goal

abbrev pub invariant-loop-member : goal.invariant-loop-member
invariant-loop-member l = record {
  so_far : l.total ≡ signed_sum (take l.member-index l.members) l.flows;
  small : unsigned_abs l.total ≤ l.member-index * 2 ^ 68;
}
