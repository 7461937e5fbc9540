-- Statement. What the names of a window stand for.
use Rattle.std.specs.Prelude.{◌≡◌, ℕ, ◌+◌, ◌-◌, ◌<◌, List, [], ◌++◌, length, map, slice_index_or, All}
use Rattle.pb_rows.specs.declared.name.Names.{Names}
use Rattle.pb_plan.specs.declared.names.WindowPlace.{WindowPlace}
use Rattle.pb_plan.specs.declared.plant.Plant.{Plant}
use Rattle.pb_plan.specs.declared.plant.Span.{Span}
use Rattle.pb_plan.specs.declared.window.Window.{Window}
use Rattle.pb_plan.specs.declared.window.WindowNode.{WindowNode}
use Rattle.pb_plan.specs.declared.window.WindowStream.{WindowStream}
use Rattle.pb_plan.specs.Codes.{node_code, stream_code}

-- the name of a period, by its number; the name of the first one for 0
abbrev pub period_name : List (List ℕ) → ℕ → List ℕ
period_name periods period = slice_index_or periods (period - 1) []

-- a node of the plant in a period
abbrev pub node_place : Names → List (List ℕ) → WindowNode → WindowPlace
node_place plant periods node = record {
  code = node_code node;
  period = period_name periods node.period;
  name = slice_index_or plant.nodes node.node [];
}

-- an arc of the plant in a period; a content is in the period that it follows, and the first content is in the first period
abbrev pub stream_place : Names → List (List ℕ) → WindowStream → WindowPlace
stream_place plant periods stream = record {
  code = stream_code stream;
  period = period_name periods stream.period;
  name = slice_index_or plant.streams stream.arc [];
}

-- What the names of a window stand for: those of its nodes except the environment, and then those of its streams.
abbrev pub window_places : Names → List (List ℕ) → Window → List WindowPlace
window_places plant periods window = map (node_place plant periods) window.nodes ++ map (stream_place plant periods) window.streams

-- a node's period and its node of the plant have names
pub record HasNodeNames (plant : Names) (periods : List (List ℕ)) (node : WindowNode) : Type 0 where
  pub period : node.period - 1 < length periods
  pub name : node.node < length plant.nodes

-- a stream's period and its arc have names
pub record HasStreamNames (plant : Names) (periods : List (List ℕ)) (stream : WindowStream) : Type 0 where
  pub period : stream.period - 1 < length periods
  pub name : stream.arc < length plant.streams

-- so have all nodes and streams of a window
pub record HaveNames (plant : Names) (periods : List (List ℕ)) (window : Window) : Type 0 where
  pub nodes : All (HasNodeNames plant periods) window.nodes
  pub streams : All (HasStreamNames plant periods) window.streams

-- any names of this plant and of these periods, one for each, give them names
abbrev pub IsNamedBy : Plant → List Span → Window → Type 0
IsNamedBy plant spans window =
    (names : Names) (periods : List (List ℕ)) → length names.nodes ≡ 1 + plant.nodes
    → length names.streams ≡ length plant.arcs → length periods ≡ length spans → HaveNames names periods window
