-- Statement. What holds for the graphs of accepted rows.
use Rattle.std.specs.Prelude.{◌≡◌, ℕ, true, false, List, [], ◌∷◌, ◌++◌, length, slice_get, filter, All, IfOk, Some, codes}
use Rattle.pb_rows.specs.declared.name.Names.{Names}
use Rattle.pb_graph.specs.ProcessGraph.{IsProcessGraph, ProcessGraph}
use Rattle.pb_plan.specs.declared.window.Window.{Window}
use Rattle.pb_plan.specs.Window.{IsWindow}
use Rattle.pb_site.specs.declared.declared.Declared.{Declared}
use Rattle.pb_site.specs.declared.declared.Version.TheVariants.{Two}
use Rattle.pb_site.specs.Site.{AreDistinct, HasDistinctNames, version_of}
use Rattle.std.specs.List.Sorted.{IsPermutation}
use Rattle.pb_facts.specs.declared.fact.Fact.{Fact}
use Rattle.pb_facts.specs.Facts.{NoRepeats, live_facts}
use Rattle.pb_kinds.specs.declared.rows.Effect.TheVariants.{Declares}
use Rattle.pb_periods.specs.declared.period.Period.{Period}
use Rattle.pb_book.specs.Accepted.{AreAccepted}
use Rattle.pb_book.specs.TakenOut.{takes_out, touching_of}
use Rattle.pb_book.specs.Plain.{plain_stored}
use Rattle.pb_kinds.specs.declared.rows.StoredRow.{StoredRow}
use Rattle.pb_book.specs.Rows.{declared_of, facts_of, periods_of, with_row}
use Rattle.pb_period.specs.Days.{days_of}
use Rattle.pb_period.specs.declared.days.Days.{Days}
use Rattle.pb_period.specs.PeriodGraph.{assembly_of, design_graph, period_graph, period_names}
use Rattle.pb_period.specs.WindowGraph.{window_assembly}

-- names of a graph: one for each node, the environment's first, and one for each stream; no two nodes share a name, and no two
-- streams
pub record AreGraphNames (names : Names) (graph : ProcessGraph) : Type 0 where
  pub each_node : length names.nodes ≡ graph.nodes
  pub each_stream : length names.streams ≡ length graph.streams
  pub environment : slice_get names.nodes 0 ≡ Some (codes "env")
  pub nodes : AreDistinct names.nodes
  pub streams : AreDistinct names.streams

-- the names of the plant are distinct, the names on any days are those of the graph of these days, and the graph of the design and
-- that of each period that has one are within the limits
pub record HaveGraphs (rows : List StoredRow) : Type 0 where
  pub names : HasDistinctNames (declared_of rows)
  pub named : (days : Days) → AreGraphNames (period_names rows days) (period_graph rows days)
  pub design : IsProcessGraph (design_graph rows)
  pub periods : All (λ (period : Period). IfOk (assembly_of rows (days_of period)) IsProcessGraph) (periods_of rows)

-- this holds for accepted rows
abbrev pub GraphsLaw : Type 0
GraphsLaw = (rows : List StoredRow) → AreAccepted rows → HaveGraphs rows

-- the graph of a window, if it has one, is within the limits
abbrev pub WindowGraphsLaw : Type 0
WindowGraphsLaw =
    (rows : List StoredRow) (periods : List Period) (window : Window) → AreAccepted rows → IsWindow window
    → IfOk (window_assembly rows periods window) IsProcessGraph

-- rows with the same graphs, that of the design and those of any days, and with the same names
pub record HaveSameGraphs (rows other : List StoredRow) : Type 0 where
  pub design : design_graph other ≡ design_graph rows
  pub days : (days : Days) → assembly_of other days ≡ assembly_of rows days
  pub names : (days : Days) → period_names other days ≡ period_names rows days

-- the plain rows of accepted rows have the same graphs as the accepted rows
abbrev pub PlainGraphsLaw : Type 0
PlainGraphsLaw = (rows : List StoredRow) → AreAccepted rows → HaveSameGraphs rows (plain_stored rows)

-- rows that declare the same, and give some days the same graph
pub record LeavesDays (rows other : List StoredRow) (days : Days) : Type 0 where
  pub declared : declared_of other ≡ declared_of rows
  pub graph : assembly_of other days ≡ assembly_of rows days

-- a stored row that doesn't take out a period doesn't change its graph
abbrev pub UntouchedLaw : Type 0
UntouchedLaw =
    (rows : List StoredRow) (stored : StoredRow) (period : Period) → AreAccepted (rows ++ stored ∷ []) → NoRepeats (facts_of (rows ++ stored ∷ []))
    → takes_out (touching_of (rows ++ stored ∷ [])) (facts_of (rows ++ stored ∷ [])) stored.effect period ≡ false
    → LeavesDays rows (rows ++ stored ∷ []) (days_of period)

-- rows that give some days the same graph, with the same names
pub record LeavesGraph (rows other : List StoredRow) (days : Days) : Type 0 where
  pub graph : assembly_of other days ≡ assembly_of rows days
  pub names : period_names other days ≡ period_names rows days

-- in version 2 a stored declaration doesn't change the graph of a closed period
abbrev pub ClosedGraphsLaw : Type 0
ClosedGraphsLaw =
    (rows : List StoredRow) (at : ℕ) (declared : Declared) (i : ℕ) (period : Period) → AreAccepted (with_row rows at (Declares declared))
    → version_of (declared_of rows) ≡ Two → slice_get (periods_of rows) i ≡ Some period → period.closed ≡ true
    → LeavesGraph rows (with_row rows at (Declares declared)) (days_of period)

-- the live facts that touch a period, in order
abbrev pub touching_facts : List StoredRow → Period → List Fact
touching_facts rows period = filter (λ (fact : Fact). touching_of rows fact period) (live_facts (facts_of rows))

-- rows that declare the same, and have the same live facts that touch a period, in whatever order
pub record AgreeOn (rows other : List StoredRow) (period : Period) : Type 0 where
  pub declared : declared_of other ≡ declared_of rows
  pub facts : IsPermutation (touching_facts rows period) (touching_facts other period)

-- They give the days of the period the same graph, with the same names, whatever else was stored: facts that don't touch the period,
-- amendments, strikes, closings, assays and other periods.
abbrev pub AgreeingLaw : Type 0
AgreeingLaw =
    (rows other : List StoredRow) (period : Period) → AreAccepted rows → NoRepeats (facts_of rows) → AgreeOn rows other period
    → LeavesGraph rows other (days_of period)
