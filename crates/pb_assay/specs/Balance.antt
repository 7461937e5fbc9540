-- Statement. The component graph of a period of a book.
use Rattle.std.specs.Prelude.{◌≡◌, ℕ, List, length, slice_get, IfSome, Result, Ok, Err}
use Rattle.pb_graph.specs.ProcessGraph.{ProcessGraph}
use Rattle.pb_study.specs.declared.results.Stage.{Stage}
use Rattle.pb_grades.specs.declared.component.ComponentFault.{ComponentFault}
use Rattle.pb_grades.specs.declared.component.ComponentFault.TheVariants as fault
use Rattle.pb_grades.specs.Component.{component_of}
use Rattle.pb_periods.specs.declared.period.Period.{Period}
use Rattle.pb_kinds.specs.declared.rows.StoredRow.{StoredRow}
use Rattle.pb_book.specs.Rows.{periods_of}
use Rattle.pb_period.specs.declared.graph.Assembly.{Assembly}
use Rattle.pb_period.specs.declared.graph.Assembly.TheVariants.{NoMemory, Over}
use Rattle.pb_period.specs.Days.{days_of}
use Rattle.pb_period.specs.Grades.{grades_of}
use Rattle.pb_period.specs.PeriodGraph.{assembly_of}

-- a component graph, or its first stream beyond the limits
abbrev pub component_assembly : Result ProcessGraph ComponentFault → Result ProcessGraph Assembly
component_assembly (Ok component) = Ok component
component_assembly (Err (fault.Over j)) = Err (Over j)
component_assembly (Err fault.NoMemory) = Err NoMemory

-- the component graph of this graph of a period, from what a stage prints for each stream and from the assays of the component in the
-- period; or its first stream beyond the limits
abbrev pub component_in : List StoredRow → List ℕ → Period → ProcessGraph → Stage → Result ProcessGraph Assembly
component_in rows component period graph stage = component_assembly (component_of graph stage.streams (grades_of rows component period))

-- the other graph has as many nodes and streams as this one
pub record HasCountsOf (graph other : ProcessGraph) : Type 0 where
  pub nodes : other.nodes ≡ graph.nodes
  pub streams : length other.streams ≡ length graph.streams

-- this is the graph of the period at a place
abbrev pub IsGraphAt : List StoredRow → ℕ → ProcessGraph → Type 0
IsGraphAt rows i graph = IfSome (slice_get (periods_of rows) i) (λ period. Ok graph ≡ assembly_of rows (days_of period))
