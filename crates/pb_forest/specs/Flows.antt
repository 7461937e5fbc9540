-- Statement. The only balanced flow vector that has given flows off the forest: its flows at the held streams follow from the
-- balances (Narasimhan and Jordache, chapter 3).
use Rattle.std.specs.Prelude.{◌≡◌, ℕ, ◌+◌, ◌^◌, ◌<◌, ◌≤◌, ℤ, Bool, false, List, length, get_or, unsigned_abs}
use Rattle.pb_fixed.specs.Sums.{item}
use Rattle.pb_graph.specs.ProcessGraph.{ProcessGraph, IsProcessGraph}
use Rattle.pb_graph.specs.Balance.{IsBalanced}
use Rattle.pb_forest.specs.Forest.{IsForest}

-- two flow vectors agree on every stream that isn't held
abbrev pub AgreeOffForest : List Bool → List ℤ → List ℤ → Type 0
AgreeOffForest held flows others = (k : ℕ) → k < length held → get_or held k false ≡ false → item flows k ≡ item others k

-- the greatest flow that a stream may be given if it isn't held, in grams: a dual flow to the nearest gram is within 2^56 + 10^15
abbrev pub most_given_flow : ℕ
most_given_flow = 2 ^ 56 + 2 ^ 50

-- a flow that a stream may be given if it isn't held, in grams
abbrev pub IsGivenFlow : ℤ → Type 0
IsGivenFlow flow = unsigned_abs flow ≤ most_given_flow

-- there is a balanced flow vector with given flows off the forest
abbrev pub SomeBalancedLaw : Type 0
SomeBalancedLaw = (graph : ProcessGraph) (held : List Bool) (off : List ℤ) → IsForest graph.streams held
    → (flows : List ℤ) × IsBalanced graph flows × AgreeOffForest held flows off

-- there is at most one balanced flow vector with given flows off the forest
abbrev pub OneBalancedLaw : Type 0
OneBalancedLaw = (graph : ProcessGraph) (held : List Bool) (flows others : List ℤ) → IsProcessGraph graph → IsForest graph.streams held
    → IsBalanced graph flows → IsBalanced graph others → AgreeOffForest held flows others → flows ≡ others
