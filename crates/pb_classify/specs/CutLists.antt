-- Inside. How the boundaries of trees grow, stream by stream.
use Rattle.std.specs.Prelude.{◌≡◌, ℕ, ◌<◌, pos, negsuc, ◌==◌, Bool, List, [], ◌∷◌, ◌++◌, get_or, set, drop, if◌then◌else◌}
use Rattle.pb_graph.specs.declared.records.Stream.{Stream}
use Rattle.pb_graph.specs.declared.records.Member.{Member}
use Rattle.pb_graph.specs.Walk.{is_in}
use Rattle.pb_graph.specs.Boundary.{members_from, boundary_of}
use Rattle.pb_classify.specs.Points.{NodePoints}

-- one more member in the list of a label
abbrev pub with_member : List (List Member) → ℕ → Member → List (List Member)
with_member lists label member = set lists label (get_or lists label [] ++ member ∷ [])

-- stream j leaves the tree with the first label and enters the tree with the second
abbrev pub with_crossing : List (List Member) → ℕ → ℕ → ℕ → List (List Member)
with_crossing lists j from to = with_member (with_member lists from (record { stream = j; sign = negsuc 0 })) to (record { stream = j; sign = pos 1 })

-- the same, if the labels of its ends differ
abbrev pub with_stream : (ℕ → ℕ) → List (List Member) → ℕ → Stream → List (List Member)
with_stream label lists j stream =
    if label stream.from == label stream.to then lists else with_crossing lists j (label stream.from) (label stream.to)

-- each label is less than the number of nodes
abbrev pub HasFewLabels : NodePoints → Type 0
HasFewLabels points = (n : ℕ) → n < points.nodes → points.label n < points.nodes

-- a side has exactly the nodes with this label
abbrev pub HasLabel : NodePoints → ℕ → List Bool → Type 0
HasLabel points label side = (m : ℕ) → m < points.nodes → is_in side m ≡ (points.label m == label)

-- the list of each label and the members of the streams from place j on are the boundary of the nodes with that label
abbrev pub AreCutsBefore : NodePoints → List Stream → ℕ → List (List Member) → Type 0
AreCutsBefore points streams j lists =
    (label : ℕ) (side : List Bool) → label < points.nodes → HasLabel points label side
    → boundary_of side streams ≡ get_or lists label [] ++ members_from side j (drop j streams)
