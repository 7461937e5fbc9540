-- Statement. The groups of the nodes of a graph, and what is kept for each group.
use Rattle.std.specs.Prelude.{◌≡◌, ◌≢◌, ◌↔◌, ℕ, ◌<◌, ◌≤◌, Bool, false, ℤ, pos, ◌≤ℤ◌, List, length, get_or, IsTrue}
use Rattle.std.specs.List.{All}
use Rattle.pb_limits.specs.Limits.{most_nodes}
use Rattle.pb_graph.specs.ProcessGraph.{ProcessGraph}
use Rattle.pb_graph.specs.Groups.{AreGroups, IsFreeGroup, group_at, group_count}
use Rattle.pb_graph.specs.Variance.{group_variance, most_group_variance}

-- the groups of the nodes: the number of each node's group; and for each group, its least node, whether it is free, and its variance
pub record Grouping : Type 0 where
  pub group : List ℕ
  pub least : List ℕ
  pub free : List Bool
  pub variance : List ℤ

-- the least node of a group, in the list that has the least node for each group
abbrev pub least_at : List ℕ → ℕ → ℕ
least_at least k = get_or least k 0

-- there is one item for each group, and each variance is within the limits of a graph
pub record IsGrouping (grouping : Grouping) : Type 0 where
  pub few : group_count grouping.group ≤ most_nodes
  pub each_least : length grouping.least ≡ group_count grouping.group
  pub each_free : length grouping.free ≡ group_count grouping.group
  pub each_variance : length grouping.variance ≡ group_count grouping.group
  pub range : All (λ v. (pos 0 ≤ℤ v) × (v ≤ℤ pos most_group_variance)) grouping.variance

-- n is the least node of group k
pub record IsLeastNode (group : List ℕ) (k n : ℕ) : Type 0 where
  pub node : n < length group
  pub member : group_at group n ≡ k
  pub first : (m : ℕ) → m < n → group_at group m ≢ k

-- the groups of a graph, each with its least node, whether it is free, and its variance
pub record AreGroupsOf (graph : ProcessGraph) (grouping : Grouping) : Type 0 where
  pub groups : AreGroups graph grouping.group
  pub least : (k : ℕ) → k < group_count grouping.group → IsLeastNode grouping.group k (least_at grouping.least k)
  pub free : (n : ℕ) → n < graph.nodes → (IsTrue (get_or grouping.free (group_at grouping.group n) false) ↔ IsFreeGroup graph n)
  pub variance : (k : ℕ) → k < group_count grouping.group → get_or grouping.variance k (pos 0) ≡ group_variance grouping.group k graph.streams
