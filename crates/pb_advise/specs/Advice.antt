-- Statement. The advice: the cheapest choice that suffices, with a cycle for each of its streams that shows why it needs a meter.
use Rattle.std.specs.Prelude.{◌≡◌, ◌≢◌, ◌↔◌, ℕ, ◌*◌, ◌<◌, ℤ, pos, ◌≤ℤ◌, int_le, int_lt, nat_lt, Bool, true, false, ◌&&◌, ◌||◌, List, ◌∷◌, length, filter_map, map, Some, None, if◌then◌else◌, slice_get, get_or, All}
use Rattle.std.specs.List.{AllByRecursion, enumerate_from}
use Rattle.pb_limits.specs.Limits.{most_streams}
use Rattle.pb_fixed.specs.Sums.{item}
use Rattle.pb_graph.specs.declared.records.Stream.{Stream}
use Rattle.pb_graph.specs.declared.records.Step.{Step}
use Rattle.pb_graph.specs.ProcessGraph.{ProcessGraph, is_measured}
use Rattle.pb_graph.specs.Walk.{ends_of, unmeasured, Reaches}
use Rattle.pb_graph.specs.Path.{IsPath}
use Rattle.pb_graph.specs.Certificates.{GoesRound}
use Rattle.pb_graph.specs.WellFormed.{IsStep}
use Rattle.pb_advise.specs.declared.advice.Meter.{Meter}
use Rattle.pb_advise.specs.declared.advice.Advice.{Advice}
use Rattle.pb_advise.specs.Choice.{IsChoice, Suffices, IsCost, most_cost, stays_unmeasured, cost_of}

-- The order in which unmeasured streams are taken: by falling cost, and the earlier first among those that cost the same. Whether
-- stream k, which is unmeasured, comes before stream j.
abbrev pub precedes : List ℤ → ℕ → ℕ → Stream → Bool
precedes costs j k stream =
    unmeasured k stream && (int_lt (item costs j) (item costs k) || (int_le (item costs j) (item costs k) && nat_lt k j))

-- The advised choice: an unmeasured stream is chosen exactly when a walk of streams that precede it joins its ends. So the streams
-- that stay unmeasured are a spanning forest of the greatest cost (Kruskal 1956; Madron, Process Plant Performance, chooses meters by
-- such a tree).
pub record IsAdvisedChoice (graph : ProcessGraph) (costs : List ℤ) (chosen : List Bool) : Type 0 where
  pub choice : IsChoice graph chosen
  pub decided : (j : ℕ) (stream : Stream) → slice_get graph.streams j ≡ Some stream → is_measured stream ≡ false
      → (get_or chosen j false ≡ true) ↔ Reaches (ends_of (precedes costs j) graph.streams) stream.from stream.to

-- the streams of a choice, in order: the places of its marks
abbrev pub streams_of : List Bool → List ℕ
streams_of chosen = filter_map (λ (one : ℕ × Bool). if one.1 then Some one.0 else None) (enumerate_from 0 chosen)

-- the streams of meters
abbrev pub metered_streams : List Meter → List ℕ
metered_streams meters = map (λ (meter : Meter). meter.stream) meters

-- The cycle of a chosen stream: the stream forward, and then the walk of streams that stay unmeasured from its `to` end to its `from` end,
-- in which no node appears twice (a fundamental cycle of graph theory; Deo, Graph Theory with Applications, chapter 3).
pub record IsChosenCycle (graph : ProcessGraph) (chosen : List Bool) (j : ℕ) (steps : List Step) : Type 0 where
  pub s : Stream
  pub at : slice_get graph.streams j ≡ Some s
  pub back : List Step
  pub path : IsPath (ends_of (stays_unmeasured chosen) graph.streams) graph.nodes graph.streams s.to back s.from
  pub round : steps ≡ record { stream = j; forward = true } ∷ back

-- the meter of a chosen stream: its cost and its cycle
pub record IsMeter (graph : ProcessGraph) (costs : List ℤ) (chosen : List Bool) (meter : Meter) : Type 0 where
  pub cost : meter.cost ≡ item costs meter.stream
  pub cycle : IsChosenCycle graph chosen meter.stream meter.steps

-- The advice: the streams of the advised choice in order, each with its cost and its cycle, and what they cost together.
pub record IsAdvice (graph : ProcessGraph) (costs : List ℤ) (advice : Advice) : Type 0 where
  pub chosen : List Bool
  pub advised : IsAdvisedChoice graph costs chosen
  pub named : metered_streams advice.meter ≡ streams_of chosen
  pub meters : AllByRecursion (IsMeter graph costs chosen) advice.meter
  pub total : advice.total ≡ cost_of costs chosen

-- What the cycle of a meter shows: the other streams on it are unmeasured and not chosen, and none of them costs less. So one of the
-- cycle's streams needs a meter, and none of them is cheaper to meter than this one.
pub record IsShown (graph : ProcessGraph) (costs : List ℤ) (chosen : List Bool) (meter : Meter) : Type 0 where
  pub cost : meter.cost ≡ item costs meter.stream
  pub round : GoesRound graph meter.stream meter.steps
  pub stay : AllByRecursion (λ (t : Step). t.stream ≢ meter.stream → get_or chosen t.stream false ≡ false) meter.steps
  pub dear : AllByRecursion (λ (t : Step). t.stream ≢ meter.stream → meter.cost ≤ℤ item costs t.stream) meter.steps

-- what an advice shows of a choice: its streams in order, each with a cycle, and its cost
pub record ShowsChoice (graph : ProcessGraph) (costs : List ℤ) (chosen : List Bool) (advice : Advice) : Type 0 where
  pub choice : IsChoice graph chosen
  pub named : metered_streams advice.meter ≡ streams_of chosen
  pub total : advice.total ≡ cost_of costs chosen
  pub shown : AllByRecursion (IsShown graph costs chosen) advice.meter

-- The cheapest metering: the choice suffices, no choice that suffices costs less, and the cycles show it.
pub record IsCheapest (graph : ProcessGraph) (costs : List ℤ) (advice : Advice) : Type 0 where
  pub chosen : List Bool
  pub shows : ShowsChoice graph costs chosen advice
  pub suffices : Suffices graph chosen
  pub least : (other : List Bool) → IsChoice graph other → Suffices graph other → advice.total ≤ℤ cost_of costs other

-- a meter refers only to streams of the graph, and its cost is within the limits of a cost
pub record IsMeterWithin (graph : ProcessGraph) (meter : Meter) : Type 0 where
  pub stream : meter.stream < length graph.streams
  pub cost : IsCost meter.cost
  pub steps : All (IsStep graph) meter.steps

-- The form of an advice, on which code that writes it relies.
pub record IsAdviceWithin (graph : ProcessGraph) (advice : Advice) : Type 0 where
  pub meters : All (IsMeterWithin graph) advice.meter
  pub least : pos 0 ≤ℤ advice.total
  pub most : advice.total ≤ℤ pos (most_streams * most_cost)
