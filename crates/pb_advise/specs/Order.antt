-- Inside. The order in which the code takes streams, and what it knows about the first ones.
use Rattle.std.specs.Prelude.{◌≡◌, ◌≢◌, ℕ, ◌<◌, ℤ, ◌-ℤ◌, ◌==◌, Bool, true, false, List, length, filter_map, take, if◌then◌else◌, Option, None, ◌*◌, ◌≤ℤ◌, Some, slice_get, get_or, pos, unsigned_abs}
use Rattle.std.specs.List.{AllByRecursion, enumerate_from, list_any}
use Rattle.pb_fixed.specs.Sums.{item}
use Rattle.pb_graph.specs.declared.records.Stream.{Stream}
use Rattle.pb_graph.specs.declared.records.Step.{Step}
use Rattle.pb_graph.specs.ProcessGraph.{ProcessGraph}
use Rattle.pb_graph.specs.Walk.{ends_of, unmeasured, Reaches}
use Rattle.pb_advise.specs.declared.advice.Advice.{Advice}
use Rattle.pb_advise.specs.Choice.{most_cost, cost_of, stays_unmeasured}
use Rattle.pb_advise.specs.Advice.{precedes, streams_of, metered_streams, IsMeter, IsChosenCycle}

-- the places of the marked items, in order; the first item has this place
abbrev pub marked_from : ℕ → List Bool → List ℕ
marked_from place marks = filter_map (λ (one : ℕ × Bool). if one.1 then Some one.0 else None) (enumerate_from place marks)

-- by how much the cost of a stream is below the greatest cost, and the place of the stream
abbrev pub Candidate : Type 0
Candidate = ℕ × ℕ

-- the place of the stream that is taken p-th
abbrev pub taken_at : List Candidate → ℕ → ℕ
taken_at list p = (get_or list p (0, 0)).1

-- a candidate is an unmeasured stream before place n, with its cost
abbrev pub IsCandidate : List ℤ → List Stream → ℕ → Candidate → Type 0
IsCandidate costs streams n c =
    (s : Stream) × (slice_get streams c.1 ≡ Some s) × (unmeasured c.1 s ≡ true) × (c.0 ≡ unsigned_abs (pos most_cost -ℤ item costs c.1)) × (c.1 < n)

-- each unmeasured stream before place n is among the candidates, in order
pub record AreCandidates (costs : List ℤ) (streams : List Stream) (n : ℕ) (list : List Candidate) : Type 0 where
  pub each : (p : ℕ) (c : Candidate) → slice_get list p ≡ Some c → IsCandidate costs streams n c
  pub all : (k : ℕ) (s : Stream) → k < n → slice_get streams k ≡ Some s → unmeasured k s ≡ true → (p : ℕ) × (p < length list) × (taken_at list p ≡ k)
  pub rise : (p q : ℕ) → p < q → q < length list → taken_at list p < taken_at list q

-- each unmeasured stream is taken once, after those that precede it
pub record IsOrder (costs : List ℤ) (streams : List Stream) (list : List Candidate) : Type 0 where
  pub each : (p : ℕ) → p < length list → (s : Stream) × (slice_get streams (taken_at list p) ≡ Some s) × (unmeasured (taken_at list p) s ≡ true)
  pub all : (k : ℕ) (s : Stream) → slice_get streams k ≡ Some s → unmeasured k s ≡ true → (p : ℕ) × (p < length list) × (taken_at list p ≡ k)
  pub sorted : (p q : ℕ) (s : Stream) → p < q → q < length list → slice_get streams (taken_at list p) ≡ Some s → precedes costs (taken_at list q) (taken_at list p) s ≡ true

-- the streams that are taken before the p-th
abbrev pub is_among : List Candidate → ℕ → ℕ → Stream → Bool
is_among list p k stream = list_any (λ (c : Candidate). c.1 == k) (take p list)

-- each place is that of a stream, and no two are the same
pub record ArePlaces (streams : List Stream) (list : List Candidate) : Type 0 where
  pub there : (p : ℕ) → p < length list → taken_at list p < length streams
  pub differ : (p q : ℕ) → p < q → q < length list → taken_at list p ≢ taken_at list q

-- the p-th stream is marked exactly when those taken before it join its ends
pub record IsMarked (streams : List Stream) (list : List Candidate) (p : ℕ) (mark : Bool) : Type 0 where
  pub joined : (s : Stream) → mark ≡ true → slice_get streams (taken_at list p) ≡ Some s → Reaches (ends_of (is_among list p) streams) s.from s.to
  pub apart : (s : Stream) → mark ≡ false → slice_get streams (taken_at list p) ≡ Some s → Reaches (ends_of (is_among list p) streams) s.from s.to → ⊥

-- streams that stay unmeasured join the ends of each chosen stream
abbrev pub AreJoined : ProcessGraph → List Bool → Type 0
AreJoined graph chosen =
    (j : ℕ) (stream : Stream) → slice_get graph.streams j ≡ Some stream → get_or chosen j false ≡ true
    → Reaches (ends_of (stays_unmeasured chosen) graph.streams) stream.from stream.to

-- the cycle of stream j, if it is chosen
abbrev pub IsCycleIfChosen : ProcessGraph → List Bool → ℕ → Option (List Step) → Type 0
IsCycleIfChosen graph chosen j None = get_or chosen j false ≡ false
IsCycleIfChosen graph chosen j (Some steps) = (get_or chosen j false ≡ true) × IsChosenCycle graph chosen j steps

-- the meters of the chosen streams before place n, and what they cost together
pub record AreMetersBefore (graph : ProcessGraph) (costs : List ℤ) (chosen : List Bool) (n : ℕ) (advice : Advice) : Type 0 where
  pub named : metered_streams advice.meter ≡ streams_of (take n chosen)
  pub meters : AllByRecursion (IsMeter graph costs chosen) advice.meter
  pub total : advice.total ≡ cost_of costs (take n chosen)
  pub least : pos 0 ≤ℤ advice.total
  pub most : advice.total ≤ℤ pos (n * most_cost)
