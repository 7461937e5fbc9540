-- A window, by its parts and by its size.
use Rattle.std.specs.Prelude.{if◌then◌else◌}
use Rattle.std.proofs.Common.{◌≡◌, ◌∙◌, Bool, true, false, List, ◌++◌, Result, Ok, Err, sym, ap, ap₂}
use Rattle.pb_plan.specs.declared.plant.Plant.{Plant}
use Rattle.pb_plan.specs.declared.plant.Span.{Span}
use Rattle.pb_plan.specs.declared.window.Window.{Window}
use Rattle.pb_plan.specs.declared.window.WindowFault.{WindowFault}
use Rattle.pb_plan.specs.declared.window.WindowFault.TheVariants.{TooGreat}
use Rattle.pb_plan.specs.declared.window.WindowNode.{WindowNode}
use Rattle.pb_plan.specs.declared.window.WindowStream.{WindowStream}
use Rattle.pb_plan.specs.Window.{is_too_great, unless_too_great, window_contents, window_flows, window_nodes, window_of, window_shape}

-- what is made of nodes and streams
abbrev pub made : List WindowNode → List WindowStream → Window
made nodes streams = record { nodes = nodes; streams = streams }

pub shape_is : (plant : Plant) (spans : List Span) (nodes : List WindowNode) (streams : List WindowStream) → nodes ≡ window_nodes plant spans
    → streams ≡ window_flows plant.arcs nodes spans ++ window_contents plant.arcs nodes spans → made nodes streams ≡ window_shape plant spans
shape_is plant spans nodes streams nodes_are streams_are =
    ap₂ made nodes_are (streams_are ∙ ap (λ (l : List WindowNode). window_flows plant.arcs l spans ++ window_contents plant.arcs l spans) nodes_are)

abbrev choice : Window → Bool → Result Window WindowFault
choice window great = if great then Err TooGreat else Ok window

pub great_is : (plant : Plant) (spans : List Span) (window : Window) → window ≡ window_shape plant spans → is_too_great window ≡ true → Err TooGreat ≡ window_of plant spans
great_is plant spans window shape great = sym (ap (choice window) great) ∙ ap unless_too_great shape

pub fits_is : (plant : Plant) (spans : List Span) (window : Window) → window ≡ window_shape plant spans → is_too_great window ≡ false → Ok window ≡ window_of plant spans
fits_is plant spans window shape fits = sym (ap (choice window) fits) ∙ ap unless_too_great shape
