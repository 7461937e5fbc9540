-- Statement. Choices of unmeasured streams to meter: when one suffices, and what it costs.
use Rattle.std.specs.Prelude.{◌≡◌, ℕ, ◌^◌, ℤ, pos, ◌≤ℤ◌, Bool, true, false, not, ◌&&◌, List, [], ◌∷◌, length, zip, Some, slice_get, get_or, All, if◌then◌else◌}
use Rattle.pb_fixed.specs.Sums.{sum_over}
use Rattle.pb_graph.specs.declared.records.Stream.{Stream}
use Rattle.pb_graph.specs.declared.records.Class.TheVariants.{Observable}
use Rattle.pb_graph.specs.ProcessGraph.{ProcessGraph, is_measured}
use Rattle.pb_graph.specs.Walk.{unmeasured}
use Rattle.pb_graph.specs.Classes.{IsClassOf}

-- a stream, with a meter if it is chosen; what the meter reads doesn't matter, since no class depends on a value or a variance
abbrev pub metered : Bool → Stream → Stream
metered true stream = record { from = stream.from; to = stream.to; meas = Some (record { value = pos 0; variance = pos 1 }) }
metered false stream = stream

-- streams, the chosen ones with meters
abbrev pub with_meters : List Bool → List Stream → List Stream
with_meters chosen [] = []
with_meters [] (stream ∷ streams) = stream ∷ streams
with_meters (mark ∷ chosen) (stream ∷ streams) = metered mark stream ∷ with_meters chosen streams

-- the graph once the chosen streams have meters
abbrev pub metered_graph : ProcessGraph → List Bool → ProcessGraph
metered_graph graph chosen = record { nodes = graph.nodes; streams = with_meters chosen graph.streams }

-- A choice: a set of unmeasured streams, as one mark for each stream.
pub record IsChoice (graph : ProcessGraph) (chosen : List Bool) : Type 0 where
  pub each : length chosen ≡ length graph.streams
  pub bare : (k : ℕ) (stream : Stream) → slice_get graph.streams k ≡ Some stream → get_or chosen k false ≡ true → is_measured stream ≡ false

-- A choice suffices if, once its streams have meters, every stream that is still unmeasured is observable: the meters determine its
-- flow (Narasimhan and Jordache, chapter 10: an observable sensor network).
abbrev pub Suffices : ProcessGraph → List Bool → Type 0
Suffices graph chosen =
    (j : ℕ) (stream : Stream) → slice_get (metered_graph graph chosen).streams j ≡ Some stream → is_measured stream ≡ false
    → IsClassOf (metered_graph graph chosen) j Observable

-- the streams that stay unmeasured: those without measurement that aren't chosen
abbrev pub stays_unmeasured : List Bool → ℕ → Stream → Bool
stays_unmeasured chosen k stream = unmeasured k stream && not (get_or chosen k false)

-- the greatest cost of a meter
abbrev pub most_cost : ℕ
most_cost = 10 ^ 12

-- a cost of a meter, in any unit
abbrev pub IsCost : ℤ → Type 0
IsCost cost = (pos 0 ≤ℤ cost) × (cost ≤ℤ pos most_cost)

-- what a meter on each stream costs: one number for each stream
pub record AreCosts (graph : ProcessGraph) (costs : List ℤ) : Type 0 where
  pub each : length costs ≡ length graph.streams
  pub within : All IsCost costs

-- the cost of a choice: the sum of the costs of its streams
abbrev pub cost_of : List ℤ → List Bool → ℤ
cost_of costs chosen = sum_over (λ (one : ℤ × Bool). if one.1 then one.0 else pos 0) (zip costs chosen)
