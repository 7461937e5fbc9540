use Rattle.std.proofs.Common.{◌≡◌, All}
use Rattle.pb_study.specs.WellFormed.{IsNodalWithin}
use Rattle.pb_stage.specs.Nodal.{nodal_tests_below}
use Rattle.pb_stage.proofs.nodals.free_tests.Given as goal

-- the groups so far have their tests
abbrev pub invariant-loop-group : goal.invariant-loop-group
invariant-loop-group l = record {
  so_far : l.tests ≡ nodal_tests_below l.groups.group l.graph.streams l.critical l.group;
  within : All (IsNodalWithin l.graph) l.tests;
}
