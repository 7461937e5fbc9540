-- Statement. The window between two periods of a book: its graph, the names of its nodes and streams, and what these stand for.
use Rattle.std.specs.Prelude.{ℕ, ◌<◌, List, length, Result, Ok, Err}
use Rattle.pb_rows.specs.declared.name.Names.{Names}
use Rattle.pb_graph.specs.ProcessGraph.{ProcessGraph}
use Rattle.pb_plan.specs.declared.names.WindowPlace.{WindowPlace}
use Rattle.pb_plan.specs.Codes.{window_names}
use Rattle.pb_plan.specs.Places.{window_places}
use Rattle.pb_site.specs.Site.{names_of}
use Rattle.pb_periods.specs.declared.period.Period.{Period}
use Rattle.pb_periods.specs.Windows.{names_of_periods, periods_between}
use Rattle.pb_kinds.specs.declared.rows.StoredRow.{StoredRow}
use Rattle.pb_book.specs.Rows.{declared_of, periods_of}
use Rattle.pb_book.specs.Windows.{OfEnds, window_between}
use Rattle.pb_period.specs.declared.graph.Assembly.{Assembly}
use Rattle.pb_period.specs.declared.graph.Assembly.TheVariants.{NoMemory, Over}
use Rattle.pb_period.specs.Laws.{AreGraphNames}
use Rattle.pb_period.specs.WindowGraph.{window_assembly}

-- the graph of the window from one period to another, or its first stream beyond the limits
abbrev pub assembly_between : List StoredRow → Period → Period → Result ProcessGraph Assembly
assembly_between rows first last = window_assembly rows (periods_between (periods_of rows) first last) (window_between rows first last)

-- a graph with these names
abbrev pub with_names : Names → Result ProcessGraph Assembly → Result (ProcessGraph × Names) Assembly
with_names names (Ok graph) = Ok (graph, names)
with_names names (Err why) = Err why

-- the graph of the window from one period to another, with the names of its nodes and streams
abbrev pub named_between : List StoredRow → Period → Period → Result (ProcessGraph × Names) Assembly
named_between rows first last = with_names (window_names (window_between rows first last)) (assembly_between rows first last)

-- what the names of the window from one period to another stand for
abbrev pub places_between : List StoredRow → Period → Period → List WindowPlace
places_between rows first last =
    window_places (names_of (declared_of rows)) (names_of_periods (periods_between (periods_of rows) first last)) (window_between rows first last)

-- the names are those of the graph
abbrev pub IsNamedWindow : ProcessGraph × Names → Type 0
IsNamedWindow made = AreGraphNames made.1 made.0

-- the window from the period at one place to the period at another has a stream at this place
abbrev pub IsStreamBetween : List StoredRow → ℕ → ℕ → ℕ → Type 0
IsStreamBetween rows first last stream = OfEnds rows first last (λ one other. stream < length (window_between rows one other).streams)

-- the stream that is beyond the limits is one of the window's
abbrev pub NamesAStreamBetween : List StoredRow → ℕ → ℕ → Assembly → Type 0
NamesAStreamBetween rows first last (Over stream) = IsStreamBetween rows first last stream
NamesAStreamBetween rows first last NoMemory = Unit {0}
