-- Inside. A breadth-first search over streams that may be taken: what its code keeps.
use Rattle.std.specs.Prelude.{◌≡◌, ℕ, ◌+◌, ◌-◌, ◌<◌, ◌≤◌, Bool, false, ◌==◌, List, [], ◌∷◌, length, Option, Some, None, get_or, set, replicate, if◌then◌else◌}
use Rattle.pb_graph.specs.declared.records.Stream.{Stream}
use Rattle.pb_graph.specs.declared.records.Step.{Step}
use Rattle.pb_graph.specs.ProcessGraph.{other_end, some_stream}
use Rattle.pb_graph.specs.Walk.{ends_of, any_stream}

-- the nodes found so far in order; for each node, one more than its place in that order (0 if it isn't found), and its step
-- toward the root
pub record SearchTree : Type 0 where
  pub root : ℕ
  pub place : List ℕ
  pub way : List Step
  pub order : List ℕ
  pub found : ℕ

abbrev pub place_of : SearchTree → ℕ → ℕ
place_of t n = get_or t.place n 0

abbrev pub way_of : SearchTree → ℕ → Step
way_of t n = get_or t.way n (record { stream = 0; forward = false })

-- how many nodes haven't been found yet
abbrev pub unfound : List ℕ → ℕ
unfound [] = 0
unfound (p ∷ ps) = (if p == 0 then 1 else 0) + unfound ps

-- each node found, except the root, has a step to a node that was found before it
pub record IsTree (ends : Step → Option (ℕ × ℕ)) (nodes : ℕ) (t : SearchTree) : Type 0 where
  pub places : length t.place ≡ nodes
  pub ways : length t.way ≡ nodes
  pub orders : length t.order ≡ nodes
  pub start : place_of t t.root ≡ 1
  pub only : (n : ℕ) → place_of t n ≡ 1 → n ≡ t.root
  pub leads : (n : ℕ) → 1 < place_of t n → (m : ℕ) × (ends (way_of t n) ≡ Some (n, m)) × (0 < place_of t m) × (place_of t m < place_of t n)
  pub listed : (i : ℕ) → i < t.found → place_of t (get_or t.order i 0) ≡ i + 1
  pub found_at : (n : ℕ) → 0 < place_of t n → get_or t.order (place_of t n - 1) 0 ≡ n
  pub within : (n : ℕ) → place_of t n ≤ t.found
  pub room : t.found + unfound t.place ≤ nodes

-- steps from the first nodes of the order lead to nodes found
abbrev pub IsClosedTo : (Step → Option (ℕ × ℕ)) → SearchTree → ℕ → Type 0
IsClosedTo ends t done = (n m : ℕ) (s : Step) → 0 < place_of t n → place_of t n ≤ done → ends s ≡ Some (n, m) → 0 < place_of t m

-- a search that is done: steps from nodes found lead to nodes found
pub record IsSearch (ends : Step → Option (ℕ × ℕ)) (nodes : ℕ) (t : SearchTree) : Type 0 where
  pub tree : IsTree ends nodes t
  pub closed : IsClosedTo ends t t.found

-- one more node
abbrev pub hung : SearchTree → ℕ → Step → SearchTree
hung t at step =
    record t { place = set t.place at (t.found + 1); way = set t.way at step; order = set t.order t.found at; found = t.found + 1 }

-- the step along a stream that ends at this node
abbrev pub step_back : ℕ → ℕ → Stream → Step
step_back node j s = record { stream = j; forward = s.to == node }

-- the stream at place j was followed from a node
abbrev pub followed : ℕ → ℕ → Bool → Stream → SearchTree → SearchTree
followed node j may s t = if may then (if place_of t (other_end node s) == 0 then hung t (other_end node s) (step_back node j s) else t) else t

-- the streams at these places were followed from a node
abbrev pub visited : List Stream → List Bool → ℕ → List ℕ → SearchTree → SearchTree
visited streams marks node [] t = t
visited streams marks node (j ∷ js) t = visited streams marks node js (followed node j (get_or marks j false) (get_or streams j some_stream) t)

-- a search that has found only its root
abbrev pub begun : ℕ → ℕ → SearchTree
begun nodes root =
    hung
    (record { root = root; place = replicate nodes 0; way = replicate nodes (record { stream = 0; forward = false }); order = replicate nodes 0; found = 0 })
    root
    (record { stream = 0; forward = false })

abbrev pub second_or_env : Option (ℕ × ℕ) → ℕ
second_or_env None = 0
second_or_env (Some ends) = ends.1

-- the node where a step ends, or the environment if there is no such stream
abbrev pub end_of : List Stream → Step → ℕ
end_of streams t = second_or_env (ends_of any_stream streams t)
