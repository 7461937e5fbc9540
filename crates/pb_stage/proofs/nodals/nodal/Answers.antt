use Rattle.std.proofs.Common.{◌≡◌, ◌∙◌, FitsSigned, rules}
use Rattle.std.specs.Int.{w128}
use Rattle.std.proofs.lemmas.Int.{to_z-of_z}
use Rattle.pb_graph.specs.Variance.{group_variance}
use Rattle.pb_stage.specs.Verdicts.{nodal_verdict}
use Rattle.pb_stage.specs.Nodal.{group_net, least_node}
use Rattle.pb_stage.proofs.GroupLemmas.{least_node_is}
use Rattle.pb_stage.proofs.nodals.nodal.Goals as goal

pub returns-clause-value : goal.returns-clause-value
returns-clause-value c =
    let g = c.args.graph.now in
    let grouping = c.args.groups.now in
    let k = c.args.group in
    let critical = c.args.critical in
    let fits_net : FitsSigned w128 c.group_net-net.result = search rules in
    let fits_variance : FitsSigned w128 c.variance-variance.result = search rules in
    let node : c.least.result ≡ least_node k grouping.group = c.least.ensures ∙ least_node_is g grouping k c.requires.groups c.requires.within in
    let net : c.group_net-net.result ≡ group_net grouping.group k g.streams =
    c.group_net-net.ensures.value ∙ (λ i. group_net (c.numbers.ensures i) k (c.streams-streams.ensures.value i)) in
    let variance : c.variance-variance.result ≡ group_variance grouping.group k g.streams = c.variance-variance.ensures.value ∙ c.requires.groups.variance k c.requires.within in
    let said : c.nodal_verdict.result ≡ nodal_verdict c.group_net-net.result c.variance-variance.result critical = simp to_z-of_z at c.nodal_verdict.ensures in
    let verdict : c.nodal_verdict.result ≡ nodal_verdict (group_net grouping.group k g.streams) (group_variance grouping.group k g.streams) critical =
    said ∙ (λ i. nodal_verdict (net i) (variance i) critical) in
    simp to_z-of_z (λ i. record { node = node i; net = net i; variance = variance i; critical = critical; verdict = verdict i })
