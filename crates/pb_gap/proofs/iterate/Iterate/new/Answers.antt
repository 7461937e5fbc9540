use Rattle.std.proofs.Common.{◌≡◌, ◌∙◌, ◌<◌, ◌^◌, ◌++◌, ℤ, List, length, take, drop, unsigned_abs, ap, subst, sym, arith}
use Rattle.std.specs.Prelude.{All}
use Rattle.pb_graph.specs.ProcessGraph.{ProcessGraph}
use Rattle.pb_graph.specs.Groups.{AreGroups}
use Rattle.pb_gap.specs.Gap.{standard_deviations_of}
use Rattle.pb_gap.specs.Iterate.{AreFlowsOf}
use Rattle.pb_gap.specs.State.{State}
use Rattle.pb_gap.proofs.Iterates.{begun, put_back, rooted, state_at, state_in, state_of}
use Rattle.pb_gap.proofs.iterate.Iterate.new.Goals as goal

pub invariant_of-result : goal.invariant_of-result
invariant_of-result c =
    let g = c.args.graph.now in
    let d = c.in_ok-dual.dual in
    let gs = c.in_ok-groups.groups in
    let numbers = c.numbers.result.now in
    let graph = c.in_ok-dual.ensures.graph in
    let there = c.streams.ensures.value ∙ ap (λ (h : ProcessGraph). h.streams) (sym graph) in
    let count : length c.streams-count.result.now ≡ length d.graph.streams = ap length (c.streams-count.ensures.value ∙ ap (λ (h : ProcessGraph). h.streams) (sym graph)) in
    let near = put_back c.in_ok-nearest.nearest.len c.write_flows.new.nearest c.in_ok-nearest.nearest.items (omega (arith, c.write_flows.auto.nearest, c.deref_mut.ensures.len)) in
    let flows = put_back c.in_ok-flows.flows.len c.write_flows.new.flows c.in_ok-flows.flows.items (omega (arith, c.write_flows.auto.flows, c.deref_mut-2.ensures.len)) in
    record {
      parts = begun g gs c.args.forest d numbers c.streams-count.ensures.limits c.in_ok-groups.ensures.groups.groups c.numbers.ensures c.requires.graph c.requires.marks
          graph c.in_ok-dual.ensures.group c.in_ok-dual.ensures.fit;
      nets = rooted g gs d numbers c.in_ok-roots.roots.items c.in_ok-groups.ensures.groups c.in_ok-roots.ensures c.numbers.ensures graph c.in_ok-dual.ensures.group;
      room = record {
        rooted = c.in_ok-standard_deviations.ensures ∙ ap standard_deviations_of there;
        of_nearest = ap length near ∙ omega (arith, count, c.write_flows.auto.nearest, c.deref_mut.ensures.len, c.in_ok-nearest.ensures.len);
        of_flows = ap length flows ∙ omega (arith, count, c.write_flows.auto.flows, c.deref_mut-2.ensures.len, c.in_ok-flows.ensures.len);
        small = subst (λ (xs : List ℤ). All (λ v. unsigned_abs v < 2 ^ 68) xs) (sym flows) c.write_flows.ensures.small;
        of_deviations = omega (arith, count, c.in_ok-deviations.ensures.len, c.in_ok-deviations.deviations.ok.0);
      };
    }

pub returns-clause-state : goal.returns-clause-state
returns-clause-state c =
    let flows = put_back c.in_ok-flows.flows.len c.write_flows.new.flows c.in_ok-flows.flows.items (omega (arith, c.write_flows.auto.flows, c.deref_mut-2.ensures.len)) in
    state_of c.args.forest c.in_ok-dual.dual (take c.in_ok-flows.flows.len (c.write_flows.new.flows ++ drop (length c.write_flows.new.flows) c.in_ok-flows.flows.items))
    (begun c.args.graph.now c.in_ok-groups.groups c.args.forest c.in_ok-dual.dual c.numbers.result.now c.streams-count.ensures.limits c.in_ok-groups.ensures.groups.groups c.numbers.ensures
    c.requires.graph c.requires.marks c.in_ok-dual.ensures.graph c.in_ok-dual.ensures.group c.in_ok-dual.ensures.fit)
    (subst (AreFlowsOf c.args.forest c.in_ok-dual.dual) (sym flows) c.write_flows.ensures)

pub returns-clause-after : goal.returns-clause-after
returns-clause-after c =
    let g = c.args.graph.now in
    let numbers = c.numbers.result.now in
    let groups : AreGroups g numbers = subst (AreGroups g) (sym c.numbers.ensures) c.in_ok-groups.ensures.groups.groups in
    let s : State = state_in c.in_ok-dual.dual (take c.in_ok-flows.flows.len (c.write_flows.new.flows ++ drop (length c.write_flows.new.flows) c.in_ok-flows.flows.items)) in
    state_at s g numbers 0 c.in_ok-dual.ensures.graph (returns-clause-state c) groups c.in_ok-dual.ensures.price
