use Rattle.std.proofs.Common.{◌≡◌}
use Rattle.pb_graph.specs.Groups.{AreGroups}
use Rattle.pb_dual.specs.Sweeps.{prices_after}
use Rattle.pb_gap.specs.State.{price_in}
use Rattle.pb_gap.specs.Solution.{EachMissesBefore}
use Rattle.pb_gap.proofs.iterate.Iterate.solve.Given as goal

-- the prices are those after this many sweeps, and each smaller number of sweeps misses the gap
abbrev pub invariant-loop-k : goal.invariant-loop-k
invariant-loop-k l = record {
  graph : l.self.graph ≡ l.fn.self.graph;
  group : l.self.group ≡ l.fn.self.group;
  groups : AreGroups l.fn.self.graph l.fn.self.group;
  after : price_in l.self ≡ prices_after l.fn.self.graph l.fn.self.group l.k;
  missed : EachMissesBefore l.fn.self.graph l.gap l.k;
}
