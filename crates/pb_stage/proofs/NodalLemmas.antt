-- Nodal tests.
use Rattle.std.proofs.Common.{◌∙◌, ℕ, List, refl, sym, ap}
use Rattle.pb_graph.specs.Groups.{group_count}
use Rattle.pb_graph.proofs.GroupLaws.{numbering_law, some_groups_law}
use Rattle.pb_stage.specs.Nodal.{nodal_tests_below}
use Rattle.pb_stage.specs.Laws.{SomeNodalTestsLaw, OneNodalTestsLaw}

pub some_nodal_tests : SomeNodalTestsLaw
some_nodal_tests g critical limits =
    let (group, groups) = some_groups_law g limits in
    (nodal_tests_below group g.streams critical (group_count group), record { group = group; groups = groups; tested = refl })

pub one_nodal_tests : OneNodalTestsLaw
one_nodal_tests g critical tests others x y =
    x.tested ∙ ap (λ (group : List ℕ). nodal_tests_below group g.streams critical (group_count group)) (numbering_law.one g x.group y.group x.groups y.groups) ∙ sym y.tested
