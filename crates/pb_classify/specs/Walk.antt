-- Inside. A walk of the trees of held unmeasured streams with an explicit stack: what its code keeps.
use Rattle.std.specs.Prelude.{◌≡◌, ◌⊎◌, ℕ, ◌+◌, ◌<◌, ◌≤◌, Bool, true, false, not, ◌&&◌, List, [], ◌∷◌, ◌++◌, length, Some, None, get_or, set, if◌then◌else◌}
use Rattle.pb_graph.specs.declared.records.Stream.{Stream}
use Rattle.pb_graph.specs.ProcessGraph.{other_end, some_stream}
use Rattle.pb_graph.specs.Neighbours.{touches}
use Rattle.pb_forest.specs.Laws.{held_unmeasured}
use Rattle.pb_classify.specs.declared.walk.Entry.{Entry}
use Rattle.pb_classify.specs.Tables.{Entries, some_entry, entry_at, node_at, depth_at, tree_at, up_at, number_of, is_entered}

-- how many nodes haven't been entered yet
abbrev pub unentered : List Bool → ℕ
unentered [] = 0
unentered (true ∷ marks) = unentered marks
unentered (false ∷ marks) = 1 + unentered marks

-- whether stream k is a branch: held and unmeasured
abbrev pub is_branch : List Stream → List Bool → ℕ → Bool
is_branch streams held k = held_unmeasured held k (get_or streams k some_stream)

-- the end of the stream at place k other than node n
abbrev pub end_from : List Stream → ℕ → ℕ → ℕ
end_from streams n k = other_end n (get_or streams k some_stream)

-- A node hangs by stream k from an entry before number i, its parent, which is one less deep. The entries after the parent are
-- deeper than the parent.
pub record Hangs (streams : List Stream) (held : List Bool) (w : Entries) (i : ℕ) (e : Entry) (k : ℕ) : Type 0 where
  pub there : k < length streams
  pub branch : is_branch streams held k ≡ true
  pub touch : touches e.node (get_or streams k some_stream) ≡ true
  pub parent : ℕ
  pub before : parent < i
  pub end : node_at w parent ≡ end_from streams e.node k
  pub deeper : depth_at w parent + 1 ≡ e.depth
  pub over : (m : ℕ) → parent < m → m < i → depth_at w parent < depth_at w m
  pub tree : tree_at w parent ≡ e.tree

-- Each node entered has one number. It hangs from an earlier one, or it begins a tree, whose label is then its number.
pub record AreEntries (nodes : ℕ) (streams : List Stream) (held : List Bool) (w : Entries) : Type 0 where
  pub numbers : length w.numbers ≡ nodes
  pub marks : length w.entered ≡ nodes
  pub room : length w.list + unentered w.entered ≡ nodes
  pub within : (i : ℕ) → i < length w.list → node_at w i < nodes
  pub seen : (i : ℕ) → i < length w.list → is_entered w (node_at w i) ≡ true
  pub placed : (i : ℕ) → i < length w.list → number_of w (node_at w i) ≡ i
  pub few : (n : ℕ) → is_entered w n ≡ true → number_of w n < length w.list
  pub found : (n : ℕ) → is_entered w n ≡ true → node_at w (number_of w n) ≡ n
  pub shallow : (i : ℕ) → i < length w.list → depth_at w i ≤ i
  pub top : (i : ℕ) → i < length w.list → up_at w i ≡ None → depth_at w i ≡ 0
  pub label : (i : ℕ) → i < length w.list → up_at w i ≡ None → tree_at w i ≡ i
  pub branch : (i k : ℕ) → i < length w.list → up_at w i ≡ Some k → Hangs streams held w i (entry_at w i) k

-- an entry that waits on the stack: it hangs from an entry of this tree, and if its node was entered, it was entered in this tree
pub record Waits (nodes : ℕ) (streams : List Stream) (held : List Bool) (w : Entries) (tree : ℕ) (e : Entry) : Type 0 where
  pub node : e.node < nodes
  pub up : ℕ
  pub is : e.up ≡ Some up
  pub hangs : Hangs streams held w (length w.list) e up
  pub label : e.tree ≡ tree
  pub same : is_entered w e.node ≡ true → tree_at w (number_of w e.node) ≡ tree

-- stream k was followed from the i-th entry: its other end was entered in the same tree, or waits on the stack
abbrev pub IsFollowed : List Stream → Entries → ℕ → List Entry → ℕ → ℕ → Type 0
IsFollowed streams w tree stack i k =
    ((is_entered w (end_from streams (node_at w i) k) ≡ true) × (tree_at w (number_of w (end_from streams (node_at w i) k)) ≡ tree_at w i))
    ⊎ ((tree_at w i ≡ tree) × ((q : ℕ) × (q < length stack) × ((get_or stack q some_entry).node ≡ end_from streams (node_at w i) k)))

-- the entries that wait hang as they should, the deepest last
pub record AreWaiting (nodes : ℕ) (streams : List Stream) (held : List Bool) (w : Entries) (tree : ℕ) (stack : List Entry) : Type 0 where
  pub each : (q : ℕ) → q < length stack → Waits nodes streams held w tree (get_or stack q some_entry)
  pub sorted : (q r : ℕ) → q ≤ r → r < length stack → (get_or stack q some_entry).depth ≤ (get_or stack r some_entry).depth

-- A tree is walked: the branches at the first entries were followed.
pub record IsWalking (nodes : ℕ) (streams : List Stream) (held : List Bool) (tree done : ℕ) (stack : List Entry) (w : Entries) : Type 0 where
  pub entries : AreEntries nodes streams held w
  pub waiting : AreWaiting nodes streams held w tree stack
  pub followed :
      (i k : ℕ) → i < done → k < length streams → is_branch streams held k ≡ true → touches (node_at w i) (get_or streams k some_stream) ≡ true
      → IsFollowed streams w tree stack i k

-- An entry is next: it hangs from an earlier one, or begins a tree, and is at least as deep as those that wait.
pub record IsNext (nodes : ℕ) (streams : List Stream) (held : List Bool) (e : Entry) (stack : List Entry) (w : Entries) : Type 0 where
  pub entries : AreEntries nodes streams held w
  pub waiting : AreWaiting nodes streams held w e.tree stack
  pub followed :
      (i k : ℕ) → i < length w.list → k < length streams → is_branch streams held k ≡ true → touches (node_at w i) (get_or streams k some_stream) ≡ true
      → IsFollowed streams w e.tree (stack ++ e ∷ []) i k
  pub node : e.node < nodes
  pub new : is_entered w e.node ≡ false
  pub hangs : (k : ℕ) → e.up ≡ Some k → Hangs streams held w (length w.list) e k
  pub top : e.up ≡ None → e.depth ≡ 0
  pub label : e.up ≡ None → e.tree ≡ length w.list
  pub deepest : (q : ℕ) → q < length stack → (get_or stack q some_entry).depth ≤ e.depth

-- one more node
abbrev pub with_entry : Entries → Entry → Entries
with_entry w e = record { numbers = set w.numbers e.node (length w.list); entered = set w.entered e.node true; list = w.list ++ e ∷ [] }

-- the entry that hangs below the i-th one by stream k
abbrev pub hung : List Stream → Entries → ℕ → ℕ → Entry
hung streams w i k = record { node = end_from streams (node_at w i) k; up = Some k; depth = depth_at w i + 1; tree = tree_at w i }

-- the stack after stream k was followed from the i-th entry
abbrev pub followed : List Stream → List Bool → Entries → ℕ → ℕ → List Entry → List Entry
followed streams held w i k stack =
    if is_branch streams held k && not (is_entered w (end_from streams (node_at w i) k)) then stack ++ hung streams w i k ∷ [] else stack

-- all nodes were entered, and each branch was followed
pub record IsWalked (nodes : ℕ) (streams : List Stream) (held : List Bool) (w : Entries) : Type 0 where
  pub entries : AreEntries nodes streams held w
  pub all : (n : ℕ) → n < nodes → is_entered w n ≡ true
  pub level :
      (i k : ℕ) → i < length w.list → k < length streams → is_branch streams held k ≡ true → touches (node_at w i) (get_or streams k some_stream) ≡ true
      → tree_at w (number_of w (end_from streams (node_at w i) k)) ≡ tree_at w i

-- the nodes that were entered before, and this one, are entered
pub record IsNowEntered (node : ℕ) (old new : Entries) : Type 0 where
  pub kept : (n : ℕ) → is_entered old n ≡ true → is_entered new n ≡ true
  pub now : is_entered new node ≡ true
