-- Statement. Each free group has exactly one nodal test, and the tests are in order of the least nodes of their groups.
use Rattle.std.specs.Prelude.{◌≡◌, ℕ, ◌<◌, ℤ, List, AllPairs, Option, Some, slice_get}
use Rattle.pb_study.specs.declared.results.NodalTest.{NodalTest}
use Rattle.pb_graph.specs.ProcessGraph.{ProcessGraph, IsProcessGraph}
use Rattle.pb_graph.specs.Groups.{IsFreeGroup, SameGroup}
use Rattle.pb_stage.specs.Nodal.{AreNodalTests}

-- the node of each test is below those of the later ones
abbrev pub AreInOrder : List NodalTest → Type 0
AreInOrder tests = AllPairs (λ (earlier later : NodalTest). earlier.node < later.node) tests

-- the test at a place is that of the group of a node
pub record IsTestOfGroup (graph : ProcessGraph) (tests : List NodalTest) (node place : ℕ) : Type 0 where
  pub test : NodalTest
  pub is : slice_get tests place ≡ Some test
  pub same : SameGroup graph.streams test.node node

-- the group of a node has one test and no other
pub record HasOneTest (graph : ProcessGraph) (tests : List NodalTest) (node : ℕ) : Type 0 where
  pub place : ℕ
  pub is : IsTestOfGroup graph tests node place
  pub only : (other : ℕ) → IsTestOfGroup graph tests node other → other ≡ place

-- The nodal tests of a graph are in order,
abbrev pub NodalOrderLaw : Type 0
NodalOrderLaw = (graph : ProcessGraph) (critical : Option ℤ) (tests : List NodalTest) → AreNodalTests graph critical tests → AreInOrder tests

-- and each free group has one of them.
abbrev pub OneTestLaw : Type 0
OneTestLaw = (graph : ProcessGraph) (critical : Option ℤ) (tests : List NodalTest) (node : ℕ)
    → IsProcessGraph graph → AreNodalTests graph critical tests → node < graph.nodes → IsFreeGroup graph node → HasOneTest graph tests node
