-- Statement. What is proved of windows, law by law.
use Rattle.std.specs.Prelude.{◌≡◌, ℕ, ◌+◌, ◌≤◌, List, length, All, Ok}
use Rattle.pb_limits.specs.Limits.{most_periods_of_window}
use Rattle.pb_rows.specs.declared.name.Names.{Names}
use Rattle.pb_plan.specs.declared.plant.Plant.{Plant}
use Rattle.pb_plan.specs.declared.plant.Span.{Span}
use Rattle.pb_plan.specs.declared.window.Window.{Window}
use Rattle.pb_plan.specs.Plant.{IsPlant}
use Rattle.pb_plan.specs.Window.{IsWindow, window_of}
use Rattle.pb_plan.specs.Codes.{AreWindowNames}
use Rattle.pb_plan.specs.Places.{HaveNames}
use Rattle.pb_plan.specs.Meaning.{IsNodeOf, IsStreamOf}

-- a window has the form of a graph
abbrev pub WindowFormLaw : Type 0
WindowFormLaw = (plant : Plant) (spans : List Span) (window : Window) → IsPlant plant → window_of plant spans ≡ Ok window → IsWindow window

-- the names of a window's nodes are names and differ, and so are those of its streams
abbrev pub WindowNamesLaw : Type 0
WindowNamesLaw = (plant : Plant) (spans : List Span) (window : Window) → IsPlant plant → length spans ≤ most_periods_of_window
    → window_of plant spans ≡ Ok window → AreWindowNames window

-- with names of a plant and of periods, one for each, each node and stream of their window finds its names
abbrev pub WindowPlacesLaw : Type 0
WindowPlacesLaw = (plant : Plant) (spans : List Span) (window : Window) (names : Names) (periods : List (List ℕ)) → window_of plant spans ≡ Ok window
    → length names.nodes ≡ 1 + plant.nodes → length names.streams ≡ length plant.arcs → length periods ≡ length spans → HaveNames names periods window

-- each node of a window is one of the plant in a period, and each stream is the flow of an arc in a period or what a tank holds between two
abbrev pub WindowLaw : Type 0
WindowLaw = (plant : Plant) (spans : List Span) (window : Window) → window_of plant spans ≡ Ok window
    → All (IsNodeOf plant spans) window.nodes × All (IsStreamOf plant spans window.nodes) window.streams
