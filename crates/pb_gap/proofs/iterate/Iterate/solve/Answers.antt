use Rattle.std.proofs.Common.{◌≡◌, ℕ, suc, ◌+◌, ap, refl, subst, arith, rules}
use Rattle.pb_gap.specs.State.{price_in}
use Rattle.pb_gap.specs.Solution.{IsMetAfter}
use Rattle.pb_gap.proofs.States.{misses_more, misses_to}
use Rattle.pb_gap.proofs.Iterates.{state_at}
use Rattle.pb_gap.proofs.SolveLemmas.{HasSamePrices, IsPricedAfter, idle_now, kept_prices, met_now, missed_now, swept_prices}
use Rattle.pb_gap.proofs.iterate.Iterate.solve.Goals as goal

pub loop-k-preserved : goal.loop-k-preserved
loop-k-preserved c =
    let g = c.args.self.now.graph in
    let group = c.args.self.now.group in
    let k = c.loop-k.k in
    let inv = c.loop-k.invariant in
    let met = c.is_met.ensures in
    let before : IsPricedAfter g group k c.loop-k.self = record { graph = inv.graph; numbers = inv.group; groups = inv.groups; after = inv.after } in
    let same : HasSamePrices c.loop-k.self c.is_met.new.self = record { graph = met.graph; numbers = met.group; prices = met.prices } in
    let next = swept_prices g group k c.is_met.new.self c.sweep.new.self (kept_prices g group k c.loop-k.self c.is_met.new.self before same) c.sweep.ensures.graph c.sweep.ensures.group c.sweep.ensures.after in
    let missed = misses_more g c.args.gap k inv.missed (missed_now g group c.args.gap k c.loop-k.self c.is_met.result before met.far c.if-is_met.false) in
    let e : suc k ≡ k + 1 = omega arith in
    let there = subst (λ (n : ℕ). IsPricedAfter g group n c.sweep.new.self) e next in
    record {
      graph = there.graph;
      group = there.numbers;
      groups = inv.groups;
      after = there.after;
      missed = misses_to g c.args.gap (suc k) (k + 1) e missed;
    }

pub returns-then-is_met-clause-solution : goal.returns-then-is_met-clause-solution
returns-then-is_met-clause-solution c =
    let g = c.args.self.now.graph in
    let group = c.args.self.now.group in
    let k = c.loop-k.k in
    let inv = c.loop-k.invariant in
    let met = c.is_met.ensures in
    let before : IsPricedAfter g group k c.loop-k.self = record { graph = inv.graph; numbers = inv.group; groups = inv.groups; after = inv.after } in
    let same : HasSamePrices c.loop-k.self c.is_met.new.self = record { graph = met.graph; numbers = met.group; prices = met.prices } in
    record {
      within = omega (arith, c.loop-k-test.true);
      least = inv.missed;
      here = met_now g group c.args.gap k c.is_met.new.self c.is_met.result (kept_prices g group k c.loop-k.self c.is_met.new.self before same) met.state met.met c.if-is_met.true;
    }

pub returns-then-not-sweep-clause-solution : goal.returns-then-not-sweep-clause-solution
returns-then-not-sweep-clause-solution c =
    let g = c.args.self.now.graph in
    let group = c.args.self.now.group in
    let k = c.loop-k.k in
    let inv = c.loop-k.invariant in
    let met = c.is_met.ensures in
    let settled = c.settle.ensures in
    let before : IsPricedAfter g group k c.loop-k.self = record { graph = inv.graph; numbers = inv.group; groups = inv.groups; after = inv.after } in
    let same : HasSamePrices c.loop-k.self c.is_met.new.self = record { graph = met.graph; numbers = met.group; prices = met.prices } in
    let here = kept_prices g group k c.loop-k.self c.is_met.new.self before same in
    let next = swept_prices g group k c.is_met.new.self c.sweep.new.self here c.sweep.ensures.graph c.sweep.ensures.group c.sweep.ensures.after in
    idle_now g group c.args.gap c.args.sweeps k c.is_met.new.self c.sweep.new.self c.settle.new.self here next (c.sweep.ensures.idle (search rules))
    (record { graph = settled.graph; numbers = settled.group; prices = settled.prices }) settled.state c.loop-k-test.true inv.missed
    (missed_now g group c.args.gap k c.loop-k.self c.is_met.result before met.far c.if-is_met.false)

pub returns-then-is_met-2-clause-solution : goal.returns-then-is_met-2-clause-solution
returns-then-is_met-2-clause-solution c =
    let g = c.args.self.now.graph in
    let group = c.args.self.now.group in
    let k = c.loop-k.k in
    let inv = c.loop-k.invariant in
    let met = c.is_met-2.ensures in
    let end : k ≡ c.args.sweeps = omega (arith, c.loop-k-test.false, c.loop-k.auto.k-end) in
    let before : IsPricedAfter g group k c.loop-k.self = record { graph = inv.graph; numbers = inv.group; groups = inv.groups; after = inv.after } in
    let same : HasSamePrices c.loop-k.self c.is_met-2.new.self = record { graph = met.graph; numbers = met.group; prices = met.prices } in
    let here = met_now g group c.args.gap k c.is_met-2.new.self c.is_met-2.result (kept_prices g group k c.loop-k.self c.is_met-2.new.self before same) met.state met.met c.if-is_met-2.true in
    record {
      within = omega arith;
      least = misses_to g c.args.gap k c.args.sweeps end inv.missed;
      here = subst (λ (n : ℕ). IsMetAfter g c.args.gap n (price_in c.is_met-2.new.self) c.is_met-2.new.self.flows) end here;
    }

pub returns-else-is_met-2-clause-solution : goal.returns-else-is_met-2-clause-solution
returns-else-is_met-2-clause-solution c =
    let g = c.args.self.now.graph in
    let group = c.args.self.now.group in
    let k = c.loop-k.k in
    let inv = c.loop-k.invariant in
    let met = c.is_met-2.ensures in
    let settled = c.settle-else-is_met-2.ensures in
    let end : k ≡ c.args.sweeps = omega (arith, c.loop-k-test.false, c.loop-k.auto.k-end) in
    let before : IsPricedAfter g group k c.loop-k.self = record { graph = inv.graph; numbers = inv.group; groups = inv.groups; after = inv.after } in
    let same : HasSamePrices c.loop-k.self c.is_met-2.new.self = record { graph = met.graph; numbers = met.group; prices = met.prices } in
    let mid = kept_prices g group k c.loop-k.self c.is_met-2.new.self before same in
    let there = subst (λ (n : ℕ). IsPricedAfter g group n c.settle-else-is_met-2.new.self) end
    (kept_prices g group k c.is_met-2.new.self c.settle-else-is_met-2.new.self mid (record { graph = settled.graph; numbers = settled.group; prices = settled.prices })) in
    let missed = misses_more g c.args.gap k inv.missed (missed_now g group c.args.gap k c.loop-k.self c.is_met-2.result before met.far c.if-is_met-2.false) in
    record {
      done = refl;
      none = misses_to g c.args.gap (suc k) (suc c.args.sweeps) (ap suc end) missed;
      here = state_at c.settle-else-is_met-2.new.self g group c.args.sweeps there.graph settled.state there.groups there.after;
    }
