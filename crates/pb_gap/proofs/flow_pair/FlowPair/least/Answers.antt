use Rattle.std.proofs.Common.{◌≡◌, ◌∙◌, List, length, ap, subst, sym, arith}
use Rattle.pb_graph.specs.declared.records.Stream.{Stream}
use Rattle.pb_gap.specs.FlowPair.{PairedFlows}
use Rattle.pb_gap.specs.Members.{AreMembers}
use Rattle.pb_gap.proofs.MemberLists.{are_members, members_few}
use Rattle.pb_gap.proofs.flow_pair.FlowPair.least.Goals as goal

pub flow_sum-flows-requires-clause-few : goal.flow_sum-flows-requires-clause-few
flow_sum-flows-requires-clause-few c =
    let few = members_few c.args.self.now.graph c.args.members.now c.requires.members in
    let same : length c.self.inside.graph.now.streams ≡ length c.args.self.now.graph.streams = ap (λ (p : PairedFlows). length p.graph.streams) c.self.view_is in
    omega (arith, few, same, c.self.invariant.measured.few)

pub flow_sum-flows-requires-clause-members : goal.flow_sum-flows-requires-clause-members
flow_sum-flows-requires-clause-members c =
    let same : c.args.self.now.graph.streams ≡ c.streams-streams.result.now = sym (ap (λ (p : PairedFlows). p.graph.streams) c.self.view_is) ∙ sym c.streams-streams.ensures.value in
    subst (λ (ss : List Stream). AreMembers ss c.args.members.now) same (are_members c.args.self.now.graph c.args.members.now c.requires.members)

pub dual_flow_sum-dual_flows-requires-clause-few : goal.dual_flow_sum-dual_flows-requires-clause-few
dual_flow_sum-dual_flows-requires-clause-few c =
    let few = members_few c.args.self.now.graph c.args.members.now c.requires.members in
    let same : length c.self.inside.graph.now.streams ≡ length c.args.self.now.graph.streams = ap (λ (p : PairedFlows). length p.graph.streams) c.self.view_is in
    omega (arith, few, same, c.self.invariant.measured.few)

pub dual_flow_sum-dual_flows-requires-clause-members : goal.dual_flow_sum-dual_flows-requires-clause-members
dual_flow_sum-dual_flows-requires-clause-members c =
    let same : c.args.self.now.graph.streams ≡ c.streams-streams.result.now = sym (ap (λ (p : PairedFlows). p.graph.streams) c.self.view_is) ∙ sym c.streams-streams.ensures.value in
    subst (λ (ss : List Stream). AreMembers ss c.args.members.now) same (are_members c.args.self.now.graph c.args.members.now c.requires.members)

pub half_width_of-requires-clause-few : goal.half_width_of-requires-clause-few
half_width_of-requires-clause-few c =
    let few = members_few c.args.self.now.graph c.args.members.now c.requires.members in
    let same : length c.self.inside.graph.now.streams ≡ length c.args.self.now.graph.streams = ap (λ (p : PairedFlows). length p.graph.streams) c.self.view_is in
    omega (arith, few, same, c.self.invariant.measured.few)

pub half_width_of-requires-clause-members : goal.half_width_of-requires-clause-members
half_width_of-requires-clause-members c =
    let same : c.args.self.now.graph.streams ≡ c.streams-streams.result.now = sym (ap (λ (p : PairedFlows). p.graph.streams) c.self.view_is) ∙ sym c.streams-streams.ensures.value in
    subst (λ (ss : List Stream). AreMembers ss c.args.members.now) same (are_members c.args.self.now.graph c.args.members.now c.requires.members)
