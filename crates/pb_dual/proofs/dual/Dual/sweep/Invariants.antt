use Rattle.std.proofs.Common.{◌≡◌, ◌≢◌, ◌<◌, ◌≤◌, ℕ, true, false, pos, get_or}
use Rattle.pb_dual.specs.Sweeps.{swept}
use Rattle.pb_dual.specs.Priced.{price_of}
use Rattle.pb_dual.proofs.dual.Dual.sweep.Given as goal

-- the groups so far have their best prices, and the result is whether one of these changed
abbrev pub invariant-loop-group : goal.invariant-loop-group
invariant-loop-group l = record {
  price : price_of l.self ≡ swept l.initial.self.group l.initial.self.graph.streams (price_of l.initial.self) l.group;
  graph : l.self.graph ≡ l.initial.self.graph;
  groups : l.self.group ≡ l.initial.self.group;
  idle : l.moved ≡ false → l.self ≡ l.initial.self;
  told : l.moved ≡ true → (k : ℕ) × (k < l.group) × (get_or l.self.prices k (pos 0) ≢ get_or l.initial.self.prices k (pos 0));
  left : (k : ℕ) → l.group ≤ k → get_or l.self.prices k (pos 0) ≡ get_or l.initial.self.prices k (pos 0);
}
