use Rattle.std.proofs.Common.{◌≡◌, ◌∙◌, ◌≤◌, ◌^◌, ℕ, ℤ, pos, List, length, map, get_or, take, drop, ◌++◌, replicate, ap, sym, subst, arith}
use Rattle.std.specs.Prelude.{All}
use Rattle.pb_limits.specs.Limits.{most_streams}
use Rattle.pb_graph.proofs.GroupLaws.{numbers_few, numbers_below}
use Rattle.pb_dual.specs.declared.border.BorderStream.{BorderStream}
use Rattle.pb_dual.specs.DualValue.{dual_flows_of}
use Rattle.pb_dual.specs.Border.{AreBorders, HasLimits, IsDual, border_of, border_room, border_variance}
use Rattle.pb_dual.proofs.FlowLemmas.{AreOf, borders_few, borders_limits, put_back}
use Rattle.pb_dual.proofs.DualLaws.{zero_dual, zero_price, get_zero}
use Rattle.pb_dual.proofs.dual.Dual.new.Goals.{After-deref}
use Rattle.pb_dual.proofs.dual.Dual.new.Goals as goal

pub count-groups-requires : goal.count-groups-requires
count-groups-requires c k d lt =
    let few = numbers_few c.args.graph.now c.args.group_of.now c.requires k d lt in
    let most = c.streams-streams.ensures.limits.few_nodes in
    omega (arith, few, most)

pub all_borders-requires-clause-groups : goal.all_borders-requires-clause-groups
all_borders-requires-clause-groups c k d lt =
    let below = numbers_below c.args.group_of.now k d lt in
    omega (arith, below, c.count-groups.ensures)

-- the borders, as they are read
are : (c : After-deref) → AreOf c.args.group_of.now c.args.graph.now.streams c.count-groups.result c.in_ok-borders.borders.items
are c k lt = c.in_ok-borders.ensures.value k lt ∙ ap (border_of c.args.group_of.now k) c.streams-streams.ensures.value

size : (c : After-deref) → length c.in_ok-borders.borders.items ≡ c.count-groups.result
size c = omega (arith, c.in_ok-borders.ensures.each, c.in_ok-borders.borders.ok.0)

pub variances-requires-clause-few : goal.variances-requires-clause-few
variances-requires-clause-few c =
    subst (λ (bs : List (List BorderStream)). All (λ b. length b ≤ most_streams) bs) (sym c.deref.ensures.value)
    (borders_few c.args.group_of.now c.args.graph.now.streams c.count-groups.result c.in_ok-borders.borders.items c.streams-streams.ensures.limits.few_streams (size c) (are c))

pub variances-requires-clause-each : goal.variances-requires-clause-each
variances-requires-clause-each c =
    subst (λ (bs : List (List BorderStream)). All (All HasLimits) bs) (sym c.deref.ensures.value)
    (borders_limits c.args.group_of.now c.args.graph.now.streams c.count-groups.result c.in_ok-borders.borders.items c.streams-streams.ensures.limits.limits (size c) (are c))

none : (ps : List ℤ) (n : ℕ) → ps ≡ replicate n (pos 0) → (k : ℕ) → get_or ps k (pos 0) ≡ pos 0
none ps n zeros k = ap (λ (ps : List ℤ). get_or ps k (pos 0)) zeros ∙ get_zero n k

pub invariant_of-result : goal.invariant_of-result
invariant_of-result c =
    let front = (goal.at.invariant_of-result c).After-deref in
    let g = c.args.graph.now in
    let group_of = c.args.group_of.now in
    let prices = c.in_ok-prices.prices.items in
    let borders = c.in_ok-borders.borders.items in
    let out = c.write_measured.new.out in
    let count = c.count-groups.ensures in
    let zeros : prices ≡ replicate c.count-groups.result (pos 0) = c.in_ok-prices.ensures.items_if_clones_equal (λ y e. e) in
    let flows_back = put_back c.in_ok-flows.flows.len out c.in_ok-flows.flows.items (omega (arith, c.write_measured.auto.out, c.deref_mut.ensures.len)) in
    let around : AreBorders group_of g.streams borders c.in_ok-variances.variances.items c.in_ok-rooms.rooms.items = record {
      each = size front ∙ count;
      are = λ k lt. are front k (omega (arith, lt, size front));
      variance = c.in_ok-variances.ensures ∙ ap (map border_variance) c.deref.ensures.value;
      room = c.in_ok-rooms.ensures ∙ ap (map (border_room (pos (2 ^ 112)))) c.deref-2.ensures.value;
    } in
    let flows : List ℤ = take c.in_ok-flows.flows.len (out ++ drop (length out) c.in_ok-flows.flows.items) in
    let kept = zero_dual g group_of prices out c.in_ok-variances.variances.items c.in_ok-rooms.rooms.items borders c.streams-streams.ensures.limits c.requires
    (omega (arith, c.in_ok-prices.ensures.len, c.in_ok-prices.prices.ok.0, count)) (none prices c.count-groups.result zeros)
    (c.write_measured.ensures ∙ ap (dual_flows_of (λ n. pos 0)) c.streams-streams.ensures.value) around in
    subst (λ (ks : List ℕ). IsDual (record { graph = g; group = ks; prices = prices }) flows borders c.in_ok-variances.variances.items c.in_ok-rooms.rooms.items (pos 0)) (sym c.in_ok-group.ensures.items)
    (subst (λ (us : List ℤ). IsDual (record { graph = g; group = group_of; prices = prices }) us borders c.in_ok-variances.variances.items c.in_ok-rooms.rooms.items (pos 0)) (sym flows_back) kept)

pub returns-clause-price : goal.returns-clause-price
returns-clause-price c =
    let zeros = c.in_ok-prices.ensures.items_if_clones_equal (λ y e. e) in
    zero_price (record { graph = c.args.graph.now; group = c.in_ok-group.group.items; prices = c.in_ok-prices.prices.items }) (none c.in_ok-prices.prices.items c.count-groups.result zeros)

pub returns-clause-fit : goal.returns-clause-fit
returns-clause-fit c = (invariant_of-result c).priced.fit
