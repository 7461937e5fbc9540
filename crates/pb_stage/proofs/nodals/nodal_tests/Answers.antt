use Rattle.std.proofs.Common.{◌≡◌, List, All}
use Rattle.std.proofs.lemmas.Result.{IfOk-weaker}
use Rattle.pb_study.specs.declared.results.NodalTest.{NodalTest}
use Rattle.pb_graph.specs.Groups.{group_count}
use Rattle.pb_stage.specs.Nodal.{nodal_tests_below}
use Rattle.pb_stage.specs.Laws.{IsNodalNumber}
use Rattle.pb_stage.proofs.NodalRangeLemmas.{nodal_range}
use Rattle.pb_stage.proofs.nodals.nodal_tests.Goals as goal

pub returns-clause-numbers : goal.returns-clause-numbers
returns-clause-numbers c =
    let g = c.args.graph.now in
    let grouping = c.in_ok-groups.groups in
    IfOk-weaker c.free_tests.result (λ (tests : List NodalTest). tests ≡ nodal_tests_below grouping.group g.streams c.args.critical (group_count grouping.group))
    (λ (tests : List NodalTest). All IsNodalNumber tests)
    (λ tests is. nodal_range g c.args.critical tests c.in_ok-groups.ensures.limits (record { group = grouping.group; groups = c.in_ok-groups.ensures.groups.groups; tested = is }))
    c.free_tests.ensures.value
