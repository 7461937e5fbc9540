-- Statement. A plant with its days of service, and which parts of it are there in a period.
use Rattle.std.specs.Prelude.{◌≡◌, ◌≢◌, ℕ, ◌≤◌, ◌==◌, ◌&&◌, ◌||◌, ℤ, pos, ◌-ℤ◌, int_le, Bool, true, List, length, filter, All, Option}
use Rattle.std.specs.Int.{int_max, int_min}
use Rattle.std.specs.List.{enumerate_from, list_any, range_with_len}
use Rattle.std.specs.Option.{option_map_or}
use Rattle.pb_limits.specs.Limits.{most_streams, most_units_and_tanks}
use Rattle.pb_rows.specs.Date.{IsDay}
use Rattle.pb_plan.specs.declared.plant.Plant.{Plant}
use Rattle.pb_plan.specs.declared.plant.PlantArc.{PlantArc}
use Rattle.pb_plan.specs.declared.plant.Service.{Service}
use Rattle.pb_plan.specs.declared.plant.Span.{Span}

-- an arc that is in service on some day of a period; without days of service, it is on every day
abbrev pub is_served : Span → PlantArc → Bool
is_served span arc = option_map_or (λ (s : Service). int_le s.since span.last && int_le span.first s.until) arc.service true

-- the day at whose end the content of a tank opens in a period: the day before its first day of service there
abbrev pub opening_day : Option Service → Span → ℤ
opening_day service span = option_map_or (λ (s : Service). int_max span.first s.since) service span.first -ℤ pos 1

-- and the day at whose end it closes: its last day of service there
abbrev pub closing_day : Option Service → Span → ℤ
closing_day service span = option_map_or (λ (s : Service). int_min span.last s.until) service span.last

-- a node is an end of an arc
abbrev pub is_end : ℕ → PlantArc → Bool
is_end node arc = (arc.from == node) || (arc.to == node)

-- A unit or tank is a node of the graph of a period if an arc in service joins it, or if idle ones are kept.
abbrev pub is_node_in : Plant → Span → ℕ → Bool
is_node_in plant span node = plant.keeps_idle || list_any (λ (arc : PlantArc). is_served span arc && is_end node arc) plant.arcs

-- these units and tanks, in order
abbrev pub nodes_in : Plant → Span → List ℕ
nodes_in plant span = filter (is_node_in plant span) (range_with_len 1 plant.nodes)

-- an arc, preceded by its number in the plant
abbrev pub NumberedArc : Type 0
NumberedArc = ℕ × PlantArc

-- the arcs that are in service in a period, in order
abbrev pub arcs_in : List PlantArc → Span → List NumberedArc
arcs_in arcs span = filter (λ (numbered : NumberedArc). is_served span numbered.1) (enumerate_from 0 arcs)

-- the ends of an arc are nodes and differ, and a tank's second end is the environment
pub record IsPlantArc (nodes : ℕ) (arc : PlantArc) : Type 0 where
  pub from : arc.from ≤ nodes
  pub to : arc.to ≤ nodes
  pub apart : arc.from ≢ arc.to
  pub tank : arc.is_tank ≡ true → arc.to ≡ 0

-- a plant within the limits
pub record IsPlant (plant : Plant) : Type 0 where
  pub few_nodes : plant.nodes ≤ most_units_and_tanks
  pub few_arcs : length plant.arcs ≤ most_streams
  pub arcs : All (IsPlantArc plant.nodes) plant.arcs

-- the first day of a period is one that a field can write
abbrev pub IsSpan : Span → Type 0
IsSpan span = IsDay span.first
