-- Statement. What each node and stream of a window is, whatever their order.
use Rattle.std.specs.Prelude.{◌≡◌, ◌⊎◌, ◌+◌, ◌≤◌, ℤ, true, false, List, slice_get, Some}
use Rattle.pb_plan.specs.declared.plant.Plant.{Plant}
use Rattle.pb_plan.specs.declared.plant.PlantArc.{PlantArc}
use Rattle.pb_plan.specs.declared.plant.Span.{Span}
use Rattle.pb_plan.specs.declared.window.Source.TheVariants.{Content, Flow}
use Rattle.pb_plan.specs.declared.window.WindowNode.{WindowNode}
use Rattle.pb_plan.specs.declared.window.WindowStream.{WindowStream}
use Rattle.pb_plan.specs.Plant.{is_node_in, is_served}
use Rattle.pb_plan.specs.Window.{content_day, content_end, span_of, stay_of, window_number_of}

-- a unit or tank of the plant that is a node of one of the periods
pub record IsNodeOf (plant : Plant) (spans : List Span) (node : WindowNode) : Type 0 where
  pub span : Span
  pub there : span_of spans node.period ≡ Some span
  pub least : 1 ≤ node.node
  pub most : node.node ≤ plant.nodes
  pub joined : is_node_in plant span node.node ≡ true

-- the flow of a stream of the plant in one of the periods, in which the stream is in service
pub record IsFlowOf (plant : Plant) (spans : List Span) (nodes : List WindowNode) (stream : WindowStream) : Type 0 where
  pub span : Span
  pub there : span_of spans stream.period ≡ Some span
  pub arc : PlantArc
  pub declared : slice_get plant.arcs stream.arc ≡ Some arc
  pub flows : arc.is_tank ≡ false
  pub served : is_served span arc ≡ true
  pub source : stream.source ≡ Flow
  pub from : stream.from ≡ window_number_of nodes stream.period arc.from
  pub to : stream.to ≡ window_number_of nodes stream.period arc.to

-- what a tank of the plant holds between a period and the next one, in at least one of which it is in service
pub record IsContentOf (plant : Plant) (spans : List Span) (nodes : List WindowNode) (stream : WindowStream) : Type 0 where
  pub arc : PlantArc
  pub declared : slice_get plant.arcs stream.arc ≡ Some arc
  pub holds : arc.is_tank ≡ true
  pub day : ℤ
  pub held : content_day arc (stay_of spans arc stream.period) (stay_of spans arc (stream.period + 1)) ≡ Some day
  pub source : stream.source ≡ Content day
  pub from : stream.from ≡ content_end nodes stream.period arc (stay_of spans arc stream.period)
  pub to : stream.to ≡ content_end nodes (stream.period + 1) arc (stay_of spans arc (stream.period + 1))

-- a flow or a content
abbrev pub IsStreamOf : Plant → List Span → List WindowNode → WindowStream → Type 0
IsStreamOf plant spans nodes stream = IsFlowOf plant spans nodes stream ⊎ IsContentOf plant spans nodes stream
