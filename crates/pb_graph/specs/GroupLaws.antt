-- Statement. What is proved of the groups of a graph, law by law.
use Rattle.std.specs.Prelude.{◌≡◌, ◌↔◌, ℕ, ◌<◌, ◌≤◌, true, pos, ◌<ℤ◌, List, Some, slice_get, IsSome}
use Rattle.std.specs.List.{list_any}
use Rattle.pb_graph.specs.declared.records.Stream.{Stream}
use Rattle.pb_graph.specs.ProcessGraph.{ProcessGraph, IsProcessGraph}
use Rattle.pb_graph.specs.Groups.{AreGroups, IsFreeGroup, is_free_group, has_one_end, group_at, group_count}
use Rattle.pb_graph.specs.Variance.{group_variance}
use Rattle.pb_graph.specs.Grouping.{IsLeastNode}

-- each graph has groups
abbrev pub SomeGroupsLaw : Type 0
SomeGroupsLaw = (graph : ProcessGraph) → IsProcessGraph graph → (group : List ℕ) × AreGroups graph group

-- a graph has only one list of group numbers
abbrev pub OneNumbering : Type 0
OneNumbering = (graph : ProcessGraph) (group other : List ℕ) → AreGroups graph group → AreGroups graph other → group ≡ other

-- groups are numbered in the order of their least nodes
abbrev pub LeastFirst : Type 0
LeastFirst = (graph : ProcessGraph) (group : List ℕ) (j k a b : ℕ) → AreGroups graph group → IsLeastNode group j a → IsLeastNode group k b → a < b → j < k

-- the numbers below the count are those that some node has, and there are no more groups than nodes
pub record AllNumbered (graph : ProcessGraph) (group : List ℕ) : Type 0 where
  pub exactly : (k : ℕ) → ((k < group_count group) ↔ ((n : ℕ) × (n < graph.nodes) × (group_at group n ≡ k)))
  pub few : group_count group ≤ graph.nodes
  pub env : IsProcessGraph graph → group_at group 0 ≡ 0

-- what is proved of the numbers
pub record NumberingLaw : Type 0 where
  pub one : OneNumbering
  pub order : LeastFirst
  pub all : (graph : ProcessGraph) (group : List ℕ) → AreGroups graph group → AllNumbered graph group

-- the test of freedom by numbers agrees with the definition by walks
abbrev pub FreeLaw : Type 0
FreeLaw = (graph : ProcessGraph) (group : List ℕ) (n : ℕ) → IsProcessGraph graph → AreGroups graph group → n < graph.nodes
    → ((is_free_group group graph.streams (group_at group n) ≡ true) ↔ IsFreeGroup graph n)

-- A stream with exactly one end in a group is measured. So a group has such a stream exactly when it has some variance.
pub record AreCrossed (graph : ProcessGraph) (group : List ℕ) (k : ℕ) : Type 0 where
  pub measured : (j : ℕ) (stream : Stream) → slice_get graph.streams j ≡ Some stream → has_one_end group k stream ≡ true → IsSome stream.meas
  pub varied : (list_any (has_one_end group k) graph.streams ≡ true) ↔ (pos 0 <ℤ group_variance group k graph.streams)

abbrev pub CrossingLaw : Type 0
CrossingLaw = (graph : ProcessGraph) (group : List ℕ) (k : ℕ) → IsProcessGraph graph → AreGroups graph group → AreCrossed graph group k
