-- Inside. The trees of a spanning forest, each hung from a root, which is the node of the tree that a search found first.
use Rattle.std.specs.Prelude.{◌≡◌, ◌≢◌, ℕ, ◌+◌, ◌<◌, ◌≤◌, Bool, true, false, List, [], ◌∷◌, ◌++◌, length, Option, Some, None, slice_get, get_or, set}
use Rattle.pb_graph.specs.declared.records.Stream.{Stream}
use Rattle.pb_graph.specs.declared.records.Step.{Step}
use Rattle.pb_graph.specs.Neighbours.{touches}
use Rattle.pb_graph.specs.Walk.{ends_of}
use Rattle.pb_graph.specs.Path.{is_open}
use Rattle.pb_graph.specs.ProcessGraph.{other_end, some_stream}

-- the nodes in the order found; for each node, its place in the order, the root of its tree (none if it hasn't been found yet), and
-- the held stream to its parent (none at a root)
pub record RootedTrees : Type 0 where
  pub order : List ℕ
  pub place : List ℕ
  pub root : List (Option ℕ)
  pub up : List (Option ℕ)

abbrev pub node_at : RootedTrees → ℕ → ℕ
node_at t i = get_or t.order i 0

abbrev pub place_of : RootedTrees → ℕ → ℕ
place_of t n = get_or t.place n 0

abbrev pub root_of : RootedTrees → ℕ → Option ℕ
root_of t n = get_or t.root n None

abbrev pub up_of : RootedTrees → ℕ → Option ℕ
up_of t n = get_or t.up n None

-- the end of the stream at place k other than node n
abbrev pub end_from : List Stream → ℕ → ℕ → ℕ
end_from streams n k = other_end n (get_or streams k some_stream)

-- how many nodes haven't been found yet
abbrev pub unfound : List (Option ℕ) → ℕ
unfound [] = 0
unfound (None ∷ os) = 1 + unfound os
unfound (Some r ∷ os) = unfound os

-- a held stream from the i-th node of an order to an earlier one, its parent
pub record IsBranch (streams : List Stream) (held : List Bool) (order : List ℕ) (i k : ℕ) : Type 0 where
  pub there : k < length streams
  pub marked : get_or held k false ≡ true
  pub touch : touches (get_or order i 0) (get_or streams k some_stream) ≡ true
  pub place : ℕ
  pub before : place < i
  pub parent : get_or order place 0 ≡ end_from streams (get_or order i 0) k

-- each node found appears once in the order, and hangs from an earlier one by a held stream, or is the root of its tree
pub record AreTrees (nodes : ℕ) (streams : List Stream) (held : List Bool) (t : RootedTrees) : Type 0 where
  pub places : length t.place ≡ nodes
  pub roots : length t.root ≡ nodes
  pub ups : length t.up ≡ nodes
  pub seen : (i : ℕ) → i < length t.order → (r : ℕ) × (root_of t (node_at t i) ≡ Some r)
  pub placed : (i : ℕ) → i < length t.order → place_of t (node_at t i) ≡ i
  pub listed : (n r : ℕ) → root_of t n ≡ Some r → (i : ℕ) × (i < length t.order) × (node_at t i ≡ n)
  pub once : (i k : ℕ) → i < k → k < length t.order → node_at t i ≢ node_at t k
  pub branch : (i k : ℕ) → i < length t.order → up_of t (node_at t i) ≡ Some k → IsBranch streams held t.order i k
  pub top : (n r : ℕ) → root_of t n ≡ Some r → up_of t n ≡ None → r ≡ n

-- the trees have every node, and both ends of a held stream are in the same tree
pub record AreWhole (nodes : ℕ) (streams : List Stream) (held : List Bool) (t : RootedTrees) : Type 0 where
  pub trees : AreTrees nodes streams held t
  pub all : (n : ℕ) → n < nodes → (r : ℕ) × (root_of t n ≡ Some r)
  pub level : (k : ℕ) (s : Stream) → slice_get streams k ≡ Some s → get_or held k false ≡ true → root_of t s.from ≡ root_of t s.to

-- trees, the last of which still grows: held streams from the first nodes of the order were followed, and the other nodes are in one tree
pub record AreGrowing (nodes : ℕ) (streams : List Stream) (held : List Bool) (done : ℕ) (t : RootedTrees) : Type 0 where
  pub trees : AreTrees nodes streams held t
  pub within : done ≤ length t.order
  pub followed : (i k : ℕ) → i < done → k < length streams → get_or held k false ≡ true → touches (node_at t i) (get_or streams k some_stream) ≡ true
      → root_of t (end_from streams (node_at t i) k) ≡ root_of t (node_at t i)
  pub one_tree : (i : ℕ) → done ≤ i → i < length t.order → root_of t (node_at t i) ≡ root_of t (node_at t done)

-- trees with more nodes, which come after those that were there before
pub record Extends (t u : RootedTrees) : Type 0 where
  pub same : (i : ℕ) → i < length t.order → node_at u i ≡ node_at t i
  pub more : length t.order ≤ length u.order
  pub kept : (n r : ℕ) → root_of t n ≡ Some r → root_of u n ≡ Some r
  pub left : length u.order + unfound u.root ≡ length t.order + unfound t.root

-- one more node, in the tree of a root, by a stream to its parent
abbrev pub hung : RootedTrees → ℕ → Option ℕ → Option ℕ → RootedTrees
hung t n root up = record { order = t.order ++ n ∷ []; place = set t.place n (length t.order); root = set t.root n root; up = set t.up n up }

-- the stream at place k was followed from the node at a place of the order
pub record AreFollowed (nodes : ℕ) (streams : List Stream) (held : List Bool) (done k : ℕ) (t u : RootedTrees) : Type 0 where
  pub growing : AreGrowing nodes streams held done u
  pub extends : Extends t u
  pub reached : get_or held k false ≡ true → root_of u (end_from streams (node_at u done) k) ≡ root_of u (node_at u done)

-- trees that grew by a search
pub record AreSearched (nodes : ℕ) (streams : List Stream) (held : List Bool) (done : ℕ) (t u : RootedTrees) : Type 0 where
  pub growing : AreGrowing nodes streams held done u
  pub extends : Extends t u

-- a step from a node to its parent, which was found before it in the same tree
pub record IsRise (nodes : ℕ) (streams : List Stream) (held : List Bool) (t : RootedTrees) (n parent : ℕ) (step : Step) : Type 0 where
  pub leads : ends_of (is_open held) streams step ≡ Some (n, parent)
  pub within : parent < nodes
  pub before : place_of t parent < place_of t n
  pub level : root_of t parent ≡ root_of t n
