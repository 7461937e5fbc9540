-- Statement. The nodes and streams of several periods at once, with what tanks hold between two of them as streams.
use Rattle.std.specs.Prelude.{◌≢◌, ℕ, ◌<◌, ◌≤◌, All, ◌+◌, ◌-◌, ◌==◌, ◌&&◌, ◌||◌, ℤ, nat_lt, Bool, List, [], ◌++◌, length, map, position, slice_get, Option, Some, None, option_and_then, option_map, Result, Ok, Err, if◌then◌else◌}
use Rattle.std.specs.Option.{option_map_or, option_or}
use Rattle.std.specs.List.{enumerate_from, filter_map, flat_map, range_with_len}
use Rattle.pb_limits.specs.Limits.{most_nodes, most_streams}
use Rattle.pb_plan.specs.declared.plant.Plant.{Plant}
use Rattle.pb_plan.specs.declared.plant.PlantArc.{PlantArc}
use Rattle.pb_plan.specs.declared.plant.Span.{Span}
use Rattle.pb_plan.specs.declared.window.Source.TheVariants.{Content, Flow}
use Rattle.pb_plan.specs.declared.window.Window.{Window}
use Rattle.pb_plan.specs.declared.window.WindowFault.{WindowFault}
use Rattle.pb_plan.specs.declared.window.WindowFault.TheVariants.{TooGreat}
use Rattle.pb_plan.specs.declared.window.WindowNode.{WindowNode}
use Rattle.pb_plan.specs.declared.window.WindowStream.{WindowStream}
use Rattle.pb_plan.specs.Plant.{NumberedArc, arcs_in, closing_day, is_served, nodes_in, opening_day}

-- a period, preceded by its number in the window, counted from 1
abbrev pub NumberedSpan : Type 0
NumberedSpan = ℕ × Span

-- ---- nodes

-- a node of a period, by its place in the graph of the period and its number in the plant
abbrev pub window_node : ℕ → ℕ × ℕ → WindowNode
window_node period placed = record { period = period; place = placed.0; node = placed.1 }

-- the nodes of a period; the environment has place 0
abbrev pub nodes_of_period : Plant → NumberedSpan → List WindowNode
nodes_of_period plant numbered = map (window_node numbered.0) (enumerate_from 1 (nodes_in plant numbered.1))

-- The nodes of a window except the environment: those of each period in turn.
abbrev pub window_nodes : Plant → List Span → List WindowNode
window_nodes plant spans = flat_map (nodes_of_period plant) (enumerate_from 1 spans)

-- a node of the window stands for this node of the plant in this period
abbrev pub stands_for : ℕ → ℕ → WindowNode → Bool
stands_for period node one = (one.period == period) && (one.node == node)

-- the number in the window's graph of a node of the plant in a period: its place after the environment, or the environment's number if it
-- isn't a node of the period
abbrev pub window_number_of : List WindowNode → ℕ → ℕ → ℕ
window_number_of nodes period node = option_map_or (λ place. 1 + place) (position (stands_for period node) nodes) 0

-- ---- flows

-- the flow of an arc in a period, by its place in the graph of the period; none for an inventory
abbrev pub flow_of : List WindowNode → ℕ → ℕ × NumberedArc → Option WindowStream
flow_of nodes period placed =
    let arc = placed.1.1 in
    if arc.is_tank then None else Some (record {
      source = Flow;
      period = period;
      place = placed.0;
      arc = placed.1.0;
      from = window_number_of nodes period arc.from;
      to = window_number_of nodes period arc.to;
    })

-- the flows of a period
abbrev pub flows_of_period : List PlantArc → List WindowNode → NumberedSpan → List WindowStream
flows_of_period arcs nodes numbered = filter_map (flow_of nodes numbered.0) (enumerate_from 0 (arcs_in arcs numbered.1))

-- The flows of a window: those of each period in turn.
abbrev pub window_flows : List PlantArc → List WindowNode → List Span → List WindowStream
window_flows arcs nodes spans = flat_map (flows_of_period arcs nodes) (enumerate_from 1 spans)

-- ---- contents

-- the period with a number; there is none for 0 and after the last one
abbrev pub span_of : List Span → ℕ → Option Span
span_of spans period = if period == 0 then None else slice_get spans (period - 1)

-- the period with a number, if there is one and an arc is in service in it
abbrev pub stay_of : List Span → PlantArc → ℕ → Option Span
stay_of spans arc period =
    option_and_then (λ (span : Span). if is_served span arc then Some span else None) (span_of spans period)

-- The day at whose end the content between two periods is held: the day at whose end it closes in the period before, or, if the tank isn't
-- in service then, the day at whose end it opens in the period after. There is no content if the tank is in service in neither.
abbrev pub content_day : PlantArc → Option Span → Option Span → Option ℤ
content_day arc before after = option_or (option_map (closing_day arc.service) before) (option_map (opening_day arc.service) after)

-- an end of a content: the tank's node in a period in which it is in service, otherwise the environment
abbrev pub content_end : List WindowNode → ℕ → PlantArc → Option Span → ℕ
content_end nodes period arc stay = option_map_or (λ _. window_number_of nodes period arc.from) stay 0

-- what a tank holds after the period with a number (0 for the first opening) and before the next one
abbrev pub content_after : List WindowNode → List Span → NumberedArc → ℕ → Option WindowStream
content_after nodes spans numbered period =
    let arc = numbered.1 in
    let before = stay_of spans arc period in
    let after = stay_of spans arc (period + 1) in
    option_map (λ (day : ℤ). record {
      source = Content day;
      period = period;
      place = numbered.0;
      arc = numbered.0;
      from = content_end nodes period arc before;
      to = content_end nodes (period + 1) arc after;
    }) (content_day arc before after)

-- the contents of an arc; there are none unless it is a tank's
abbrev pub contents_of_arc : List WindowNode → List Span → NumberedArc → List WindowStream
contents_of_arc nodes spans numbered =
    if numbered.1.is_tank then filter_map (content_after nodes spans numbered) (range_with_len 0 (length spans + 1)) else []

-- The contents of a window: those of each tank in turn.
abbrev pub window_contents : List PlantArc → List WindowNode → List Span → List WindowStream
window_contents arcs nodes spans = flat_map (contents_of_arc nodes spans) (enumerate_from 0 arcs)

-- ---- the window

-- The streams of a window: its flows, and then its contents.
abbrev pub window_streams : Plant → List Span → List WindowStream
window_streams plant spans =
    window_flows plant.arcs (window_nodes plant spans) spans ++ window_contents plant.arcs (window_nodes plant spans) spans

abbrev pub window_shape : Plant → List Span → Window
window_shape plant spans = record { nodes = window_nodes plant spans; streams = window_streams plant spans }

-- more nodes or streams than a graph may have
abbrev pub is_too_great : Window → Bool
is_too_great window = nat_lt most_nodes (1 + length window.nodes) || nat_lt most_streams (length window.streams)

abbrev pub unless_too_great : Window → Result Window WindowFault
unless_too_great window = if is_too_great window then Err TooGreat else Ok window

-- The window of some periods in order of days.
abbrev pub window_of : Plant → List Span → Result Window WindowFault
window_of plant spans = unless_too_great (window_shape plant spans)

-- ---- its form

-- a stream of a window joins two nodes of its graph
pub record IsWindowStream (nodes : ℕ) (stream : WindowStream) : Type 0 where
  pub from : stream.from < nodes
  pub to : stream.to < nodes
  pub apart : stream.from ≢ stream.to

-- the form of a window, with the environment as one more node
pub record IsWindow (window : Window) : Type 0 where
  pub few_nodes : 1 + length window.nodes ≤ most_nodes
  pub few_streams : length window.streams ≤ most_streams
  pub joins : All (IsWindowStream (1 + length window.nodes)) window.streams
