-- Statement. The solution of a graph: sweeps until the gap is met, up to a greatest number of sweeps.
use Rattle.std.specs.Prelude.{◌≡◌, ℕ, suc, ◌<◌, ◌≤◌, ℤ, pos, List, Option}
use Rattle.pb_study.specs.declared.results.Solved.{Solved}
use Rattle.pb_study.specs.declared.results.Solved.TheVariants.{Converged, Unconverged}
use Rattle.pb_graph.specs.ProcessGraph.{ProcessGraph, IsProcessGraph}
use Rattle.pb_gap.specs.Gap.{gap_of, MeetsGap}
use Rattle.pb_gap.specs.State.{IsStateAfter}
use Rattle.pb_gap.specs.Statistic.{low_of, high_of}

-- the state after k sweeps, whose gap is met at this many thousandths of a standard deviation
pub record IsMetAfter (graph : ProcessGraph) (gap k : ℕ) (price : ℕ → ℤ) (flows : List ℤ) : Type 0 where
  pub state : IsStateAfter graph k price flows
  pub met : MeetsGap gap (gap_of price graph.streams flows)

-- there is a state after k sweeps, and its gap isn't met
pub record MissesAfter (graph : ProcessGraph) (gap k : ℕ) : Type 0 where
  pub price : ℕ → ℤ
  pub flows : List ℤ
  pub state : IsStateAfter graph k price flows
  pub missed : MeetsGap gap (gap_of price graph.streams flows) → ⊥

-- after each number of sweeps below n there is a state, and its gap isn't met
abbrev pub EachMissesBefore : ProcessGraph → ℕ → ℕ → Type 0
EachMissesBefore graph gap n = (k : ℕ) → k < n → MissesAfter graph gap k

-- k is the least number of sweeps after which the gap is met, and no more than are allowed; the state is the one after k sweeps
pub record IsConverged (graph : ProcessGraph) (gap sweeps k : ℕ) (price : ℕ → ℤ) (flows : List ℤ) : Type 0 where
  pub within : k ≤ sweeps
  pub least : EachMissesBefore graph gap k
  pub here : IsMetAfter graph gap k price flows

-- after each number of sweeps up to k, which is all that are allowed, the gap isn't met; the state is the one after k sweeps
pub record IsUnconverged (graph : ProcessGraph) (gap sweeps k : ℕ) (price : ℕ → ℤ) (flows : List ℤ) : Type 0 where
  pub done : k ≡ sweeps
  pub none : EachMissesBefore graph gap (suc k)
  pub here : IsStateAfter graph k price flows

-- The solution of a graph at a gap in thousandths of a standard deviation with a greatest number of sweeps: the state after the least
-- number of sweeps that meets the gap, or the state after all of the sweeps if none does.
abbrev pub IsSolution : ProcessGraph → ℕ → ℕ → Solved → (ℕ → ℤ) → List ℤ → Type 0
IsSolution graph gap sweeps (Converged k) price flows = IsConverged graph gap sweeps k price flows
IsSolution graph gap sweeps (Unconverged k) price flows = IsUnconverged graph gap sweeps k price flows

-- the ends of the statistic of a graph, solved at a gap with a greatest number of sweeps
pub record IsSolvedStatistic (graph : ProcessGraph) (gap sweeps : ℕ) (low : ℤ) (high : Option ℤ) : Type 0 where
  pub solved : Solved
  pub price : ℕ → ℤ
  pub flows : List ℤ
  pub solution : IsSolution graph gap sweeps solved price flows
  pub is_low : low ≡ low_of graph.streams flows (gap_of price graph.streams flows)
  pub is_high : high ≡ high_of graph.streams flows

-- two states are the same
pub record IsSameState (first second : ℕ → ℤ) (these those : List ℤ) : Type 0 where
  pub price : first ≡ second
  pub flows : these ≡ those

-- a process graph has a state after each number of sweeps
abbrev pub SomeStateLaw : Type 0
SomeStateLaw = (graph : ProcessGraph) (k : ℕ) → IsProcessGraph graph → (price : ℕ → ℤ) × (flows : List ℤ) × IsStateAfter graph k price flows

-- a process graph has at most one state after each number of sweeps
abbrev pub OneStateLaw : Type 0
OneStateLaw = (graph : ProcessGraph) (k : ℕ) (price other : ℕ → ℤ) (flows others : List ℤ) → IsProcessGraph graph
    → IsStateAfter graph k price flows → IsStateAfter graph k other others → IsSameState price other flows others

-- a node outside the graph has the price 0 in each state
abbrev pub OutsideLaw : Type 0
OutsideLaw = (graph : ProcessGraph) (k : ℕ) (price : ℕ → ℤ) (flows : List ℤ) (node : ℕ) → IsProcessGraph graph
    → IsStateAfter graph k price flows → graph.nodes ≤ node → price node ≡ pos 0

-- a process graph has a solution at each gap and each greatest number of sweeps
abbrev pub SomeSolutionLaw : Type 0
SomeSolutionLaw = (graph : ProcessGraph) (gap sweeps : ℕ) → IsProcessGraph graph
    → (solved : Solved) × (price : ℕ → ℤ) × (flows : List ℤ) × IsSolution graph gap sweeps solved price flows

-- a process graph has at most one solution at each gap and each greatest number of sweeps
abbrev pub OneSolutionLaw : Type 0
OneSolutionLaw = (graph : ProcessGraph) (gap sweeps : ℕ) (solved again : Solved) (price other : ℕ → ℤ) (flows others : List ℤ)
    → IsProcessGraph graph → IsSolution graph gap sweeps solved price flows → IsSolution graph gap sweeps again other others
    → (solved ≡ again) × IsSameState price other flows others

-- the statistic of a process graph, once solved, has ends
abbrev pub SomeSolvedStatisticLaw : Type 0
SomeSolvedStatisticLaw = (graph : ProcessGraph) (gap sweeps : ℕ) → IsProcessGraph graph
    → (low : ℤ) × (high : Option ℤ) × IsSolvedStatistic graph gap sweeps low high

-- the statistic of a process graph, once solved, has only one pair of ends
abbrev pub OneSolvedStatisticLaw : Type 0
OneSolvedStatisticLaw = (graph : ProcessGraph) (gap sweeps : ℕ) (low other_low : ℤ) (high other_high : Option ℤ) → IsProcessGraph graph
    → IsSolvedStatistic graph gap sweeps low high → IsSolvedStatistic graph gap sweeps other_low other_high → (low ≡ other_low) × (high ≡ other_high)
