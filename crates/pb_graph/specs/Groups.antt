-- Statement. Groups of nodes: Mah, Stanley and Downing (1976) merge the nodes that an unmeasured stream joins.
use Rattle.std.specs.Prelude.{◌≡◌, ◌↔◌, ◌⊎◌, ℕ, ◌+◌, ◌<◌, max, ℤ, pos, neg_ℤ, Bool, not, ◌&&◌, ◌==◌, List, [], ◌∷◌, length, get_or, if◌then◌else◌}
use Rattle.std.specs.List.{Any, list_any}
use Rattle.pb_graph.specs.declared.records.Stream.{Stream}
use Rattle.pb_graph.specs.ProcessGraph.{ProcessGraph}
use Rattle.pb_graph.specs.Walk.{ends_of, unmeasured, Reaches}

-- two nodes are in the same group if a walk of unmeasured streams, each in either direction, leads from one to the other
abbrev pub SameGroup : List Stream → ℕ → ℕ → Type 0
SameGroup streams a b = Reaches (ends_of unmeasured streams) a b

-- a stream has exactly one end in the group of a node
abbrev pub CrossesGroup : List Stream → ℕ → Stream → Type 0
CrossesGroup streams node stream =
    (SameGroup streams node stream.from × (SameGroup streams node stream.to → ⊥)) ⊎ ((SameGroup streams node stream.from → ⊥) × SameGroup streams node stream.to)

-- The group of a node is free if it isn't the group of the environment, node 0, and some stream has exactly one end in it. (A free
-- stream, IsFree, is something else.)
pub record IsFreeGroup (graph : ProcessGraph) (node : ℕ) : Type 0 where
  pub apart : SameGroup graph.streams 0 node → ⊥
  pub crossed : Any (CrossesGroup graph.streams node) graph.streams

-- the number of a node's group, in the list that has the number for each node
abbrev pub group_at : List ℕ → ℕ → ℕ
group_at group node = get_or group node 0

-- The groups of a graph, as a list that has the number of each node's group. Two nodes have the same number exactly when they are
-- in the same group. Each number below that of a node is the number of an earlier node: groups are numbered from 0 in the order
-- of their least nodes (a restricted growth string: Knuth, The Art of Computer Programming 4A, 7.2.1.5).
pub record AreGroups (graph : ProcessGraph) (group : List ℕ) : Type 0 where
  pub each : length group ≡ graph.nodes
  pub same : (a b : ℕ) → a < graph.nodes → b < graph.nodes → ((group_at group a ≡ group_at group b) ↔ SameGroup graph.streams a b)
  pub numbered : (n k : ℕ) → n < graph.nodes → k < group_at group n → (m : ℕ) × (m < n) × (group_at group m ≡ k)

-- how many groups there are: one more than the greatest number
abbrev pub group_count : List ℕ → ℕ
group_count [] = 0
group_count (number ∷ group) = max (number + 1) (group_count group)

-- whether exactly one of two ends is in the group with this number, given the numbers of the groups of the ends
abbrev pub is_one_end : ℕ → ℕ → ℕ → Bool
is_one_end from to number = if to == number then not (from == number) else from == number

-- whether a stream has exactly one end in the group with this number
abbrev pub has_one_end : List ℕ → ℕ → Stream → Bool
has_one_end group number stream = is_one_end (group_at group stream.from) (group_at group stream.to) number

-- whether the group with this number is free
abbrev pub is_free_group : List ℕ → List Stream → ℕ → Bool
is_free_group group streams number = not (group_at group 0 == number) && list_any (has_one_end group number) streams

-- what a flow brings into a set of nodes, by which ends of its stream are in the set: the flow if the stream enters, its negative
-- if the stream leaves, and 0 if both ends are on the same side
abbrev pub entering : Bool → Bool → ℤ → ℤ
entering from_in to_in flow = if to_in then (if from_in then pos 0 else flow) else (if from_in then neg_ℤ flow else pos 0)
