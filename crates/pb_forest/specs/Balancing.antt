-- Inside. How flows are balanced: net flows are kept at the branches, from the leaves of each tree to its root.
use Rattle.std.specs.Prelude.{◌≡◌, ◌≢◌, ℕ, zero, suc, ◌<◌, ◌≤◌, ℤ, pos, neg_ℤ, ◌+ℤ◌, Bool, false, ◌==◌, List, [], ◌∷◌, ◌++◌, length, map, Option, Some, None, get_or, set, if◌then◌else◌}
use Rattle.pb_fixed.specs.Sums.{sum_below, item}
use Rattle.pb_graph.specs.declared.records.Stream.{Stream}
use Rattle.pb_graph.specs.ProcessGraph.{ProcessGraph, IsProcessGraph, some_stream}
use Rattle.pb_graph.specs.Groups.{entering}
use Rattle.pb_graph.specs.Balance.{brought_to}
use Rattle.pb_graph.specs.WellFormed.{IsFlow}
pub use Rattle.pb_forest.specs.declared.chords.Chord.{Chord}
pub use Rattle.pb_forest.specs.declared.branches.Branch.{Branch}
use Rattle.pb_forest.specs.Forest.{IsForest}
use Rattle.pb_forest.specs.Flows.{AgreeOffForest}
use Rattle.pb_forest.specs.Trees.{RootedTrees, AreWhole, node_at, up_of, end_from}

-- the stream at place k as a chord, with the branches that its ends hang by
abbrev pub chord_at : List Stream → RootedTrees → ℕ → Chord
chord_at streams trees k =
    record { stream = k; from = up_of trees (get_or streams k some_stream).from; to = up_of trees (get_or streams k some_stream).to }

-- the streams among the first n that aren't held
abbrev pub chords_of : List Stream → List Bool → RootedTrees → ℕ → List Chord
chords_of streams held trees zero = []
chords_of streams held trees (suc n) = chords_of streams held trees n ++ (if get_or held n false then [] else chord_at streams trees n ∷ [])

-- the branch that node n hangs by, if it has one, with the branch of its parent
abbrev pub branch_from : List Stream → RootedTrees → ℕ → Option ℕ → Option Branch
branch_from streams trees n None = None
branch_from streams trees n (Some k) =
    Some (record { stream = k; enters = (get_or streams k some_stream).to == n; parent = up_of trees (end_from streams n k) })

-- the branch of each node in the order found
abbrev pub branches_of : List Stream → RootedTrees → List (Option Branch)
branches_of streams trees = map (λ n. branch_from streams trees n (up_of trees n)) trees.order

-- what is kept with a spanning forest: its trees, its chords, and the branch of each node in the order found
pub record IsKept (graph : ProcessGraph) (held : List Bool) (trees : RootedTrees) (chords : List Chord) (branches : List (Option Branch)) : Type 0 where
  pub forest : IsForest graph.streams held
  pub rooted : AreWhole graph.nodes graph.streams held trees
  pub limits : IsProcessGraph graph
  pub are_chords : chords ≡ chords_of graph.streams held trees (length graph.streams)
  pub are_branches : branches ≡ branches_of graph.streams trees

-- what a flow of a stream brings into a set of nodes
abbrev pub entering_of : (ℕ → Bool) → Stream → ℤ → ℤ
entering_of inside stream flow = entering (inside stream.from) (inside stream.to) flow

-- the flow at a place if the stream there isn't held, and 0 if it is
abbrev pub chord_flow : List Bool → List ℤ → ℕ → ℤ
chord_flow held flows k = if get_or held k false then pos 0 else item flows k

-- what the streams among the first n that aren't held bring into a set of nodes
abbrev pub crossing : (ℕ → Bool) → List Stream → List Bool → List ℤ → ℕ → ℤ
crossing inside streams held flows n = sum_below (λ k. entering_of inside (get_or streams k some_stream) (chord_flow held flows k)) n

-- the net flow at node n, with flow k as the flow of the k-th stream
abbrev pub net_by : ℕ → List Stream → (ℕ → ℤ) → ℤ
net_by n streams flow = sum_below (λ k. brought_to n (get_or streams k some_stream) (flow k)) (length streams)

-- an amount is added to what is kept at a branch; nothing is kept at a root
abbrev pub added_at : Option ℕ → ℤ → List ℤ → List ℤ
added_at None amount out = out
added_at (Some k) amount out = set out k (item out k +ℤ amount)

-- the flow of a chord is added to the net flows of its ends
abbrev pub brought : Chord → ℤ → List ℤ → List ℤ
brought chord flow out = added_at chord.to flow (added_at chord.from (neg_ℤ flow) out)

-- the flows of chords are added to the net flows of their ends
abbrev pub gathered : List Chord → List ℤ → List ℤ → List ℤ
gathered [] off out = out
gathered (chord ∷ chords) off out = gathered chords off (brought chord (item off chord.stream) out)

-- the flow of a branch that balances its lower end n, if this is the net flow there without it
abbrev pub balancing : ℕ → Stream → ℤ → ℤ
balancing n stream net = if stream.to == n then neg_ℤ net else net

-- node n was balanced by its branch, if it has one: its net flow was added to that of its parent
abbrev pub settled : List Stream → RootedTrees → ℕ → Option ℕ → List ℤ → List ℤ
settled streams trees n None out = out
settled streams trees n (Some k) out =
    added_at (up_of trees (end_from streams n k)) (item out k) (set out k (balancing n (get_or streams k some_stream) (item out k)))

-- the same, by the branch of a node
abbrev pub settled_by : Option Branch → List ℤ → List ℤ
settled_by None out = out
settled_by (Some b) out =
    added_at b.parent (item out b.stream) (set out b.stream (if b.enters then neg_ℤ (item out b.stream) else item out b.stream))

-- the places of a chord and of a branch are within a list of flows
pub record IsChordWithin (n : ℕ) (chord : Chord) : Type 0 where
  pub stream : chord.stream < n
  pub from : (k : ℕ) → chord.from ≡ Some k → k < n
  pub to : (k : ℕ) → chord.to ≡ Some k → k < n

pub record IsBranchWithin (n : ℕ) (branch : Branch) : Type 0 where
  pub stream : branch.stream < n
  pub parent : (k : ℕ) → branch.parent ≡ Some k → k < n

-- The net flows of the streams that aren't held are kept at the branches: at the branch of node n, what those before place j bring
-- to n.
pub record AreNets (streams : List Stream) (held : List Bool) (off : List ℤ) (trees : RootedTrees) (j : ℕ) (out : List ℤ) : Type 0 where
  pub each : length out ≡ length streams
  pub net : (n e : ℕ) → up_of trees n ≡ Some e → item out e ≡ crossing (λ m. m == n) streams held off j
  pub rest : (k : ℕ) → k < length streams → ((n : ℕ) → up_of trees n ≢ Some k) → item out k ≡ chord_flow held off k

-- The nodes from place i of the order on are balanced. The branch of an earlier node keeps the net flow of that node, given the flows
-- decided so far. This is what the streams that aren't held bring to the nodes below it.
pub record AreBalancedFrom (streams : List Stream) (held : List Bool) (off : List ℤ) (trees : RootedTrees) (i : ℕ) (out : List ℤ) : Type 0 where
  pub each : length out ≡ length streams
  pub agree : AgreeOffForest held out off
  pub small : (k : ℕ) → IsFlow (item out k)
  pub flow : ℕ → ℤ
  pub waits : (b e : ℕ) → b < i → up_of trees (node_at trees b) ≡ Some e → flow e ≡ pos 0
  pub decided : (k : ℕ) → k < length streams → ((b : ℕ) → b < i → up_of trees (node_at trees b) ≢ Some k) → flow k ≡ item out k
  pub net : (b e : ℕ) → b < i → up_of trees (node_at trees b) ≡ Some e → item out e ≡ net_by (node_at trees b) streams flow
  pub even : (b e : ℕ) → i ≤ b → b < length trees.order → up_of trees (node_at trees b) ≡ Some e → net_by (node_at trees b) streams flow ≡ pos 0
  pub home : ℕ → ℕ
  pub below : (b e : ℕ) → b < i → up_of trees (node_at trees b) ≡ Some e → item out e ≡ crossing (λ m. home m == node_at trees b) streams held off (length streams)
