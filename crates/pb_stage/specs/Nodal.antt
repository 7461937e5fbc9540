-- Statement. Nodal tests: the measured net flow of each group of nodes that can be tested (Mah, Stanley and Downing 1976, who merge
-- the nodes that an unmeasured stream joins; Mah and Tamhane 1982, on the test).
use Rattle.std.specs.Prelude.{◌≡◌, ℕ, zero, suc, ◌*◌, ◌==◌, ℤ, List, [], ◌∷◌, ◌++◌, Option, if◌then◌else◌}
use Rattle.pb_limits.specs.Limits.{most_streams, most_value}
use Rattle.pb_fixed.specs.Sums.{sum_over}
use Rattle.pb_graph.specs.declared.records.Stream.{Stream}
use Rattle.pb_study.specs.declared.results.NodalTest.{NodalTest}
use Rattle.pb_graph.specs.ProcessGraph.{ProcessGraph}
use Rattle.pb_graph.specs.Groups.{AreGroups, entering, group_at, group_count, is_free_group}
use Rattle.pb_graph.specs.Squares.{value_or_zero}
use Rattle.pb_graph.specs.Variance.{group_variance}
use Rattle.pb_stage.specs.Verdicts.{nodal_verdict}

-- what the measured value of a stream brings into group k: nothing if both ends are on the same side
abbrev pub crossing_value : List ℕ → ℕ → Stream → ℤ
crossing_value group k stream =
    entering (group_at group stream.from == k) (group_at group stream.to == k) (value_or_zero stream.meas)

-- the net flow of group k by the measured values: what enters less what leaves
abbrev pub group_net : List ℕ → ℕ → List Stream → ℤ
group_net group k streams = sum_over (crossing_value group k) streams

-- the greatest net flow of a group, in grams, either way: each stream brings in the greatest value
abbrev pub most_group_net : ℕ
most_group_net = most_streams * most_value

-- the least node of group k
abbrev pub least_node : ℕ → List ℕ → ℕ
least_node k [] = 0
least_node k (number ∷ group) = if number == k then 0 else suc (least_node k group)

-- the nodal test of group k, named by its least node
abbrev pub nodal_test : List ℕ → List Stream → Option ℤ → ℕ → NodalTest
nodal_test group streams critical k = record {
  node = least_node k group;
  net = group_net group k streams;
  variance = group_variance group k streams;
  critical = critical;
  verdict = nodal_verdict (group_net group k streams) (group_variance group k streams) critical;
}

-- the test of group k, or none if it isn't free
abbrev pub test_of_group : List ℕ → List Stream → Option ℤ → ℕ → List NodalTest
test_of_group group streams critical k =
    if is_free_group group streams k then nodal_test group streams critical k ∷ [] else []

-- the tests of the free groups with numbers below k, in order
abbrev pub nodal_tests_below : List ℕ → List Stream → Option ℤ → ℕ → List NodalTest
nodal_tests_below group streams critical zero = []
nodal_tests_below group streams critical (suc k) =
    nodal_tests_below group streams critical k ++ test_of_group group streams critical k

-- The nodal tests of a graph: one for each free group, in order of the groups.
pub record AreNodalTests (graph : ProcessGraph) (critical : Option ℤ) (tests : List NodalTest) : Type 0 where
  pub group : List ℕ
  pub groups : AreGroups graph group
  pub tested : tests ≡ nodal_tests_below group graph.streams critical (group_count group)
