-- Inside. Numbers in the order of the least nodes, node by node, and the unmeasured streams, stream by stream.
use Rattle.std.specs.Prelude.{◌≡◌, ℕ, ◌<◌, ◌≤◌, Bool, ◌&&◌, ◌==◌, nat_lt, List, length, if◌then◌else◌}
use Rattle.pb_graph.specs.declared.records.Stream.{Stream}
use Rattle.pb_graph.specs.Walk.{unmeasured}
use Rattle.pb_graph.specs.Groups.{group_at}
use Rattle.pb_graph.specs.Parts.{label_at}
use Rattle.pb_graph.specs.Grouping.{least_at}

-- the test that unmeasured streams before a place may be taken
abbrev pub unmeasured_before : ℕ → ℕ → Stream → Bool
unmeasured_before j k stream = unmeasured k stream && nat_lt k j

-- the number of node n's group, if the nodes before it have theirs and have this many groups: the number of its label, or a new number
-- if the node is its own label
abbrev pub number_of : List ℕ → ℕ → ℕ → ℕ → ℕ
number_of group groups n label = if label == n then groups else group_at group label

-- the first n nodes have the numbers of their groups, which are numbered in the order of their least nodes
pub record AreNumbered (labels : List ℕ) (n : ℕ) (group least : List ℕ) : Type 0 where
  pub each : length group ≡ n
  pub few : length least ≤ n
  pub below : (a : ℕ) → a < n → group_at group a < length least
  pub label : (a : ℕ) → a < n → least_at least (group_at group a) ≡ label_at labels a
  pub before : (k : ℕ) → k < length least → least_at least k < n
  pub member : (k : ℕ) → k < length least → group_at group (least_at least k) ≡ k
  pub rising : (j k : ℕ) → j < k → k < length least → least_at least j < least_at least k
