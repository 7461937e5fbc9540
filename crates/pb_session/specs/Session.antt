-- Statement. The output of a session.
use Rattle.std.specs.Prelude.{◌≡◌, ℕ, ℤ, ◌+◌, Bool, ◌||◌, false, List, [], ◌∷◌, ◌++◌, Option, Some, None, IsSomeAnd, slice_get, length, All, Result, Ok, Err, codes}
use Rattle.pb_rows.specs.declared.name.Names.{Names}
use Rattle.pb_plan.specs.Codes.{window_names}
use Rattle.pb_graph.specs.declared.records.Classified.{Classified}
use Rattle.pb_study.specs.declared.results.Options.{Options}
use Rattle.pb_study.specs.declared.results.Stage.{Stage}
use Rattle.pb_study.specs.declared.results.Study.{Study}
use Rattle.pb_graph.specs.ProcessGraph.{ProcessGraph, IsProcessGraph}
use Rattle.pb_facts.specs.declared.grade.Grade.{Grade}
use Rattle.pb_grades.specs.Component.{component_of}
use Rattle.pb_classify.specs.Classification.{IsClassification}
use Rattle.pb_advise.specs.declared.advice.Advice.{Advice}
use Rattle.pb_advise.specs.Choice.{AreCosts}
use Rattle.pb_advise.specs.Advice.{IsAdvice, IsCheapest}
use Rattle.pb_elim.specs.Study.{IsStudyOf}
use Rattle.pb_stage.specs.Certified.{IsCertifiedStage, HasLeastThroughout, TestsEachRedundant}
use Rattle.pb_site.specs.Site.{AreDistinct, names_of}
use Rattle.pb_kinds.specs.declared.costs.NamedCost.{NamedCost}
use Rattle.pb_kinds.specs.Costs.{named_costs}
use Rattle.pb_book.specs.declared.answer.Accepted.{Accepted}
use Rattle.pb_book.specs.declared.answer.Accepted.TheVariants as answered
use Rattle.pb_book.specs.declared.answer.Refused.{Refused}
use Rattle.pb_periods.specs.declared.period.Period.{Period}
use Rattle.pb_kinds.specs.declared.rows.StoredRow.{StoredRow}
use Rattle.pb_book.specs.Rows.{declared_of, periods_of}
use Rattle.pb_book.specs.Costs.{meter_costs}
use Rattle.pb_book.specs.Edits.{history_of}
use Rattle.pb_periods.specs.Windows.{periods_between}
use Rattle.pb_book.specs.Windows.{window_between}
use Rattle.pb_book.specs.Answer.{Answer, Refuses, Says, Stores, after, answer_of, cause_code, is_refused}
use Rattle.pb_period.specs.Days.{days_of}
use Rattle.pb_period.specs.Grades.{grades_of}
use Rattle.pb_period.specs.declared.graph.Assembly.{Assembly}
use Rattle.pb_period.specs.declared.graph.Assembly.TheVariants.{Over, NoMemory}
use Rattle.pb_period.specs.PeriodGraph.{assembly_of, design_graph, period_names}
use Rattle.pb_assay.specs.Balance.{component_assembly}
use Rattle.pb_window.specs.Between.{assembly_between, places_between}
use Rattle.pb_session.specs.Criticals.{critical_of}
use Rattle.pb_report.specs.declared.form.Form.{Form}
use Rattle.pb_report.specs.Form.{text_in}
use Rattle.pb_report.specs.Row.{OutputRow}
use Rattle.pb_report.specs.Names.{IsNamed, name_at}
use Rattle.pb_report.specs.Refusal.{refused_row}
use Rattle.pb_report.specs.Advice.{advice_rows}
use Rattle.pb_report.specs.Component.{component_row}
use Rattle.pb_report.specs.Design.{design_rows}
use Rattle.pb_report.specs.History.{history_rows}
use Rattle.pb_report.specs.Over.{over_row}
use Rattle.pb_report.specs.Study.{study_rows}
use Rattle.pb_report.specs.Window.{window_rows}

-- What a session holds: the options of its studies, the form of its output, and the rows stored so far.
pub record SessionState : Type 0 where
  pub options : Options
  pub form : Form
  pub rows : List StoredRow

-- the text consists of these rows, in the form of the session
abbrev pub IsTextOf : SessionState → List OutputRow → List ℕ → Type 0
IsTextOf state rows text = text ≡ text_in state.form rows

-- Names of a graph: one for each node, the environment's first, and one for each stream; no two nodes share a name, and no two
-- streams.
pub record AreNamesOf (names : Names) (graph : ProcessGraph) : Type 0 where
  pub each : IsNamed names graph
  pub environment : slice_get names.nodes 0 ≡ Some (codes "env")
  pub nodes : AreDistinct names.nodes
  pub streams : AreDistinct names.streams

-- The text is the design of a graph: the rows of its streams under their names, each with its class and certificate.
pub record IsDesign (state : SessionState) (names : Names) (graph : ProcessGraph) (text : List ℕ) : Type 0 where
  pub limits : IsProcessGraph graph
  pub named : AreNamesOf names graph
  pub classes : List Classified
  pub are : IsClassification graph classes
  pub rows : IsTextOf state (design_rows names graph classes) text

-- The text is the advice for a graph, given what a meter on each stream costs: the rows of its cheapest metering, by the names of
-- the streams. The advised choice suffices, no choice that suffices costs less, and each stream of it has a cycle whose other
-- streams stay unmeasured and cost no less.
pub record IsAdviceText (state : SessionState) (names : Names) (graph : ProcessGraph) (costs : List ℤ) (text : List ℕ) : Type 0 where
  pub limits : IsProcessGraph graph
  pub named : AreNamesOf names graph
  pub each_costs : AreCosts graph costs
  pub advice : Advice
  pub is_advice : IsAdvice graph costs advice
  pub cheapest : IsCheapest graph costs advice
  pub rows : IsTextOf state (advice_rows names advice) text

-- The text is the report of a period with this name and this graph after some rows: these rows, and the rows of the study of the
-- graph, by the critical values of the stored rows and under the names of its nodes and streams. Each stage of the study is certified
-- and has least bounds at each stream that has bounds; if it has tests, it has those of its redundant streams.
pub record IsReport (state : SessionState) (before : List OutputRow) (names : Names) (period : List ℕ) (graph : ProcessGraph) (text : List ℕ) : Type 0 where
  pub limits : IsProcessGraph graph
  pub named : AreNamesOf names graph
  pub study : Study
  pub is_study : IsStudyOf graph state.options (critical_of state.rows) study
  pub certified : All IsCertifiedStage study.stages
  pub least : All HasLeastThroughout study.stages
  pub tested : All TestsEachRedundant study.stages
  pub rows : IsTextOf state (before ++ study_rows names period state.options study) text

-- the text of a report after some rows, given its graph and the names of the graph's nodes and streams; or the row that names the
-- first stream beyond the limits
abbrev pub ReportsBy : SessionState → List OutputRow → Names → List ℕ → Result ProcessGraph Assembly → List ℕ → Type 0
ReportsBy state before names period (Ok graph) text = IsReport state before names period graph text
ReportsBy state before names period (Err (Over j)) text = IsTextOf state (over_row period (name_at names.streams j) ∷ []) text
ReportsBy state before names period (Err NoMemory) text = ⊥

-- the text of the report of the period at a place
abbrev pub Reports : SessionState → Option Period → List ℕ → Type 0
Reports state found text =
    IsSomeAnd found (λ period. ReportsBy state [] (period_names state.rows (days_of period)) period.name
    (assembly_of state.rows (days_of period)) text)

-- ---- the balance of a component

-- the last stage of a study
abbrev pub last_stage : Study → Option Stage
last_stage study = slice_get study.stages (length study.taken)

-- The answer is the component graph of a graph, from what the last stage of its study prints for each stream and from these grades;
-- or its first stream beyond the limits. The study is by the critical values of the stored rows.
pub record IsBalanceOf (state : SessionState) (graph : ProcessGraph) (grades : List (Option Grade)) (answer : Result ProcessGraph Assembly) : Type 0 where
  pub limits : IsProcessGraph graph
  pub study : Study
  pub is_study : IsStudyOf graph state.options (critical_of state.rows) study
  pub last : Stage
  pub is_last : last_stage study ≡ Some last
  pub is : answer ≡ component_assembly (component_of graph last.streams grades)

-- the component graph of the graph of a period, from these grades; or the first stream of the period beyond the limits
abbrev pub BalancesIn : SessionState → List (Option Grade) → Result ProcessGraph Assembly → Result ProcessGraph Assembly → Type 0
BalancesIn state grades (Ok graph) answer = IsBalanceOf state graph grades answer
BalancesIn state grades (Err why) answer = answer ≡ Err why

-- the text of the balance of a component in the period at a place: the row of the component, and the report of its component graph
-- under the names of the period's nodes and streams
abbrev pub Balances : SessionState → List ℕ → Option Period → List ℕ → Type 0
Balances state component found text =
    IsSomeAnd found (λ period. (answer : Result ProcessGraph Assembly)
    × BalancesIn state (grades_of state.rows component period) (assembly_of state.rows (days_of period)) answer
    × ReportsBy state (component_row component period.name ∷ []) (period_names state.rows (days_of period)) period.name answer text)

-- ---- a window of several periods

-- the rows before the report of the window from one period to another: which periods it covers, and what its names stand for
abbrev pub window_head : List StoredRow → Period → Period → List OutputRow
window_head rows first last =
    window_rows first.name last.name (length (periods_between (periods_of rows) first last)) (places_between rows first last)

-- the text of the window from the period at one place to the period at another, under the name of the first: the rows before its
-- report, and the report of its graph under the names of its nodes and streams
abbrev pub Windows : SessionState → Option Period → Option Period → List ℕ → Type 0
Windows state found other text =
    IsSomeAnd found (λ first. IsSomeAnd other (λ last. ReportsBy state (window_head state.rows first last)
    (window_names (window_between state.rows first last)) first.name (assembly_between state.rows first last) text))

-- ---- what a record adds

-- the text of the history of the period at a place: its state, and the edits that touch it, in the order of their records
abbrev pub IsHistoryText : SessionState → Option Period → List ℕ → Type 0
IsHistoryText state found text =
    IsSomeAnd found (λ period. IsTextOf state (history_rows period.name period.closed (history_of state.rows period)) text)

-- the text that an accepted record adds, given the costs that it names
abbrev pub AddsAccepted : SessionState → List NamedCost → Accepted → List ℕ → Type 0
AddsAccepted state costs answered.Blank text = text ≡ []
AddsAccepted state costs answered.Stored text = text ≡ []
AddsAccepted state costs answered.Design text = IsDesign state (names_of (declared_of state.rows)) (design_graph state.rows) text
AddsAccepted state costs (answered.Report i) text = Reports state (slice_get (periods_of state.rows) i) text
AddsAccepted state costs (answered.History i) text = IsHistoryText state (slice_get (periods_of state.rows) i) text
AddsAccepted state costs (answered.Component component i) text = Balances state component (slice_get (periods_of state.rows) i) text
AddsAccepted state costs (answered.Window first last) text =
    Windows state (slice_get (periods_of state.rows) first) (slice_get (periods_of state.rows) last) text
AddsAccepted state costs answered.Advise text =
    IsAdviceText state (names_of (declared_of state.rows)) (design_graph state.rows) (meter_costs (declared_of state.rows) costs) text

-- the text that an answer to the record with this number adds
abbrev pub AddsBy : SessionState → ℕ → List NamedCost → Answer → List ℕ → Type 0
AddsBy state at costs (Refuses cause) text = IsTextOf state (refused_row at (cause_code cause) ∷ []) text
AddsBy state at costs (Stores row) text = text ≡ []
AddsBy state at costs (Says accepted) text = AddsAccepted state costs accepted text

-- The text that a record adds to the output: for a refused record, its row; for `design`, the rows of the design; for `report`,
-- those of the report; for `history`, those of the history; for `advise`, those of the advice; for `component`, its row and the
-- report of the component's graph; for `window`, its rows and the report of its graph.
abbrev pub Adds : SessionState → ℕ → List (List ℕ) → List ℕ → Type 0
Adds state at fields text = AddsBy state at (named_costs fields) (answer_of state.rows fields) text

-- why a record is refused, if it is
abbrev pub cause_in : Answer → Option Refused
cause_in (Refuses cause) = Some cause
cause_in (Stores effect) = None
cause_in (Says accepted) = None

-- a session that has stored nothing
abbrev pub new_session : Options → Form → SessionState
new_session options form = record { options = options; form = form; rows = [] }

-- what a session holds after the record with this number
abbrev pub state_after : SessionState → ℕ → List (List ℕ) → SessionState
state_after state at fields = record { options = state.options; form = state.form; rows = after state.rows at fields }

-- what a session holds after some records, which are numbered from `at`
abbrev pub state_after_all : SessionState → ℕ → List (List (List ℕ)) → SessionState
state_after_all state at [] = state
state_after_all state at (fields ∷ records) = state_after_all (state_after state at fields) (at + 1) records

-- The text of a session consists of the texts of its records in order, each after the rows that earlier records stored. The records
-- are numbered from `at`.
abbrev pub IsSessionText : SessionState → ℕ → List (List (List ℕ)) → List ℕ → Type 0
IsSessionText state at [] text = text ≡ []
IsSessionText state at (fields ∷ records) text =
    (first : List ℕ) × (rest : List ℕ) × Adds state at fields first
    × IsSessionText (state_after state at fields) (at + 1) records rest × (text ≡ first ++ rest)

-- some record of a session is refused
abbrev pub refuses_some : SessionState → ℕ → List (List (List ℕ)) → Bool
refuses_some state at [] = false
refuses_some state at (fields ∷ records) =
    is_refused (answer_of state.rows fields) || refuses_some (state_after state at fields) (at + 1) records
