use Rattle.std.proofs.Common.{◌∙◌, ℤ, pos, List, length, take, drop, ◌++◌, get_or, ap, sym, subst, arith}
use Rattle.pb_dual.specs.DualValue.{dual_flows_of}
use Rattle.pb_dual.specs.Border.{IsDual}
use Rattle.pb_dual.proofs.FlowLemmas.{put_back}
use Rattle.pb_dual.proofs.DualLaws.{zero_dual, zero_price}
use Rattle.pb_dual.proofs.dual.Dual.reset.Goals as goal

pub invariant_of-self : goal.invariant_of-self
invariant_of-self c =
    let i = c.self.inside in
    let h = c.self.invariant in
    let prices = c.clear.new.prices in
    let flows = c.write_measured.new.out in
    let prices_back = put_back i.prices.len prices i.prices.items (omega (arith, c.clear.auto.prices, c.deref_mut.ensures.len)) in
    let flows_back = put_back i.flows.len flows i.flows.items (omega (arith, c.write_measured.auto.out, c.deref_mut-2.ensures.len)) in
    let kept = zero_dual i.graph.now i.group.items prices flows i.variances.items i.rooms.items i.borders.items h.priced.limits h.priced.groups
    (omega (arith, c.clear.auto.prices, ap length c.deref_mut.ensures.value, h.priced.each)) c.clear.ensures
    (c.write_measured.ensures ∙ ap (dual_flows_of (λ n. pos 0)) c.streams.ensures.value) h.around in
    subst (λ (ps : List ℤ). IsDual (record { graph = i.graph.now; group = i.group.items; prices = ps }) (take i.flows.len (flows ++ drop (length flows) i.flows.items)) i.borders.items i.variances.items i.rooms.items (pos 0)) (sym prices_back)
    (subst (λ (us : List ℤ). IsDual (record { graph = i.graph.now; group = i.group.items; prices = prices }) us i.borders.items i.variances.items i.rooms.items (pos 0)) (sym flows_back) kept)

pub returns-clause-price : goal.returns-clause-price
returns-clause-price c =
    let i = c.self.inside in
    let prices = c.clear.new.prices in
    let prices_back = put_back i.prices.len prices i.prices.items (omega (arith, c.clear.auto.prices, c.deref_mut.ensures.len)) in
    zero_price (record { graph = i.graph.now; group = i.group.items; prices = take i.prices.len (prices ++ drop (length prices) i.prices.items) })
    (λ k. ap (λ (ps : List ℤ). get_or ps k (pos 0)) prices_back ∙ c.clear.ensures k)

pub returns-clause-fit : goal.returns-clause-fit
returns-clause-fit c = (invariant_of-self c).priced.fit
