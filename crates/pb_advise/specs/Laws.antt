-- Statement. What is proved of choices and of the advice, law by law.
use Rattle.std.specs.Prelude.{◌≡◌, ◌↔◌, ℤ, pos, ◌≤ℤ◌, Bool, List}
use Rattle.pb_graph.specs.ProcessGraph.{ProcessGraph, IsProcessGraph}
use Rattle.pb_forest.specs.Laws.{IsAcyclic}
use Rattle.pb_advise.specs.declared.limits.TheConstants.{MOST_COST}
use Rattle.pb_advise.specs.declared.advice.Advice.{Advice}
use Rattle.pb_advise.specs.Choice.{IsChoice, Suffices, AreCosts, stays_unmeasured, cost_of, most_cost}
use Rattle.pb_advise.specs.Advice.{IsAdvice, IsAdviceWithin, IsCheapest, ShowsChoice}

-- the constant of the code equals the number of the definition
abbrev pub CostLimitLaw : Type 0
CostLimitLaw = MOST_COST ≡ pos most_cost

-- A choice suffices exactly when the streams that stay unmeasured have no cycle.
abbrev pub SufficesLaw : Type 0
SufficesLaw = (graph : ProcessGraph) (chosen : List Bool) → IsProcessGraph graph → IsChoice graph chosen
    → Suffices graph chosen ↔ IsAcyclic graph.streams (stays_unmeasured chosen)

-- The cycles alone prove that nothing is cheaper, however the choice was found: no choice that suffices costs less than one whose
-- streams have such cycles.
abbrev pub CyclesLaw : Type 0
CyclesLaw = (graph : ProcessGraph) (costs : List ℤ) (chosen other : List Bool) (advice : Advice) → IsProcessGraph graph → AreCosts graph costs
    → ShowsChoice graph costs chosen advice → IsChoice graph other → Suffices graph other → advice.total ≤ℤ cost_of costs other

-- the advice is the cheapest metering
abbrev pub CheapestLaw : Type 0
CheapestLaw = (graph : ProcessGraph) (costs : List ℤ) (advice : Advice) → IsProcessGraph graph → AreCosts graph costs
    → IsAdvice graph costs advice → IsCheapest graph costs advice

-- a graph has at most one advice at given costs
abbrev pub OneAdviceLaw : Type 0
OneAdviceLaw = (graph : ProcessGraph) (costs : List ℤ) (one other : Advice)
    → IsAdvice graph costs one → IsAdvice graph costs other → one ≡ other

-- and it has one
abbrev pub SomeAdviceLaw : Type 0
SomeAdviceLaw = (graph : ProcessGraph) (costs : List ℤ) → (advice : Advice) × IsAdvice graph costs advice

-- an advice refers only to streams of its graph, and its numbers are within their ranges
abbrev pub AdviceFormLaw : Type 0
AdviceFormLaw = (graph : ProcessGraph) (costs : List ℤ) (advice : Advice) → IsProcessGraph graph → AreCosts graph costs
    → IsAdvice graph costs advice → IsAdviceWithin graph advice
