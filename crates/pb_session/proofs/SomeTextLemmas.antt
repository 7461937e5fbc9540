-- Each record adds a text, and each session has one.
use Rattle.std.proofs.Common.{◌≡◌, ◌≢◌, ◌∙◌, ℕ, ◌+◌, ◌<◌, List, [], ◌∷◌, ◌++◌, length, map, Option, Some, None, IfOk, Result, Ok, Err, slice_get, get_or, refl, sym, ap, subst}
use Rattle.std.specs.Prelude.{All, IfSome}
use Rattle.std.proofs.lemmas.List.{length-map}
use Rattle.std.proofs.lemmas.List.Elements.{All-map}
use Rattle.std.proofs.lemmas.Option.{slice_get-get_or}
use Rattle.pb_rows.specs.declared.name.Names.{Names}
use Rattle.pb_plan.specs.Codes.{window_names}
use Rattle.pb_study.specs.declared.results.Stage.{Stage}
use Rattle.pb_study.specs.declared.results.Study.{Study}
use Rattle.pb_graph.specs.ProcessGraph.{ProcessGraph, IsProcessGraph}
use Rattle.pb_grades.specs.declared.component.ComponentFault.{ComponentFault}
use Rattle.pb_grades.specs.declared.component.ComponentFault.TheVariants as fault
use Rattle.pb_facts.specs.declared.grade.Grade.{Grade}
use Rattle.pb_grades.specs.Component.{component_of, component_streams}
use Rattle.pb_facts.specs.Grade.{IsGrade}
use Rattle.pb_grades.specs.Laws.{ComponentFormLaw}
use Rattle.pb_classify.specs.Laws.{SomeClassificationLaw}
use Rattle.pb_advise.specs.Laws.{CheapestLaw, SomeAdviceLaw}
use Rattle.pb_study.specs.Criticals.{AreCritical}
use Rattle.pb_elim.specs.Laws.{CertifiedLaw, FormedLaw, LeastThroughoutLaw, TestedLaw, SomeStudyLaw}
use Rattle.pb_study.specs.Options.{AreOptions}
use Rattle.pb_elim.specs.Study.{IsStudyOf}
use Rattle.pb_kinds.specs.declared.costs.NamedCost.{NamedCost}
use Rattle.pb_kinds.specs.Costs.{IsMeterCost, named_costs}
use Rattle.pb_book.specs.Accepted.{AreAccepted}
use Rattle.pb_book.specs.Assays.{grade_of}
use Rattle.pb_book.specs.Costs.{meter_costs}
use Rattle.pb_book.specs.Edits.{history_of}
use Rattle.pb_kinds.specs.declared.rows.StoredRow.{StoredRow}
use Rattle.pb_book.specs.declared.answer.Accepted.TheVariants.{Blank, Design, Report, History, Advise, Component, Window}
use Rattle.pb_book.specs.declared.answer.Accepted.{Accepted}
use Rattle.pb_periods.specs.declared.period.Period.{Period}
use Rattle.pb_book.specs.Rows.{declared_of, periods_of}
use Rattle.pb_book.specs.Answer.{Answer, Refuses, Says, Stores, answer_of}
use Rattle.pb_book.specs.Laws.{AcceptedLaw, MeterCostsLaw}
use Rattle.pb_book.specs.Windows.{BookWindowsLaw, IsBookWindow, IsWindowAsked, window_between, window_refusal}
use Rattle.pb_periods.specs.Windows.{periods_between}
use Rattle.pb_period.specs.Laws.{GraphsLaw, HaveGraphs, WindowGraphsLaw}
use Rattle.pb_period.specs.Days.{days_of}
use Rattle.pb_period.specs.Grades.{grades_of}
use Rattle.pb_period.specs.declared.graph.Assembly.{Assembly}
use Rattle.pb_period.specs.declared.graph.Assembly.TheVariants.{Over, NoMemory}
use Rattle.pb_period.specs.PeriodGraph.{assembly_of, base_of, design_graph, period_graph, period_names, unless_over}
use Rattle.pb_report.specs.Component.{component_row}
use Rattle.pb_report.specs.Form.{text_in}
use Rattle.pb_report.specs.Row.{OutputRow}
use Rattle.pb_session.specs.Criticals.{critical_of}
use Rattle.pb_report.specs.History.{history_rows}
use Rattle.pb_assay.specs.Balance.{component_assembly}
use Rattle.pb_window.specs.Between.{assembly_between}
use Rattle.pb_session.specs.Session.{AddsAccepted, AddsBy, AreNamesOf, Balances, BalancesIn, IsBalanceOf, IsHistoryText, IsReport, Reports, ReportsBy, SessionState, Windows, last_stage, state_after, window_head}
use Rattle.pb_session.specs.Laws.{SomeTextLaw, SomeSessionTextLaw}
use Rattle.pb_assay.proofs.CountLemmas.{component_unless, counts_of}
use Rattle.pb_session.proofs.BalanceLemmas.{each_result, last_there, names_as}
use Rattle.pb_session.proofs.NamedLemmas.{costs_are, graph_names_are, names_are, period_names_are}
use Rattle.pb_session.proofs.RowLemmas.{AnswersOf, answers, some_period}
use Rattle.pb_window.proofs.NamedLemmas.{window_names_are}
use Rattle.pb_session.proofs.WindowedLemmas.{windows_at}

-- a period has a graph, or a stream of it is over the limits
never_memory : (graph : ProcessGraph) (found : Option ℕ) → unless_over graph found ≢ Err NoMemory
never_memory graph (Some stream) = λ is. cc is
never_memory graph None = λ is. cc is

-- the report of a process graph that has these names, after some rows
some_study_text : SomeStudyLaw → CertifiedLaw → LeastThroughoutLaw → TestedLaw → (state : SessionState) (before : List OutputRow) (names : Names) (period : List ℕ) (graph : ProcessGraph) → AreOptions state.options
    → IsProcessGraph graph → AreNamesOf names graph → (text : List ℕ) × IsReport state before names period graph text
some_study_text studies certified least tested state before names period graph asked within named =
    let (study, is_study) = studies graph state.options (critical_of state.rows) within asked in (
      _,
      record {
        limits = within;
        named = named;
        study = study;
        is_study = is_study;
        certified = certified graph state.options (critical_of state.rows) study within is_study;
        least = least graph state.options (critical_of state.rows) study is_study;
        tested = tested graph state.options (critical_of state.rows) study is_study;
        rows = refl;
      },
    )

some_report : SomeStudyLaw → CertifiedLaw → LeastThroughoutLaw → TestedLaw → (state : SessionState) (period : Period) (assembly : Result ProcessGraph Assembly) → AreOptions state.options
    → HaveGraphs state.rows → IfOk assembly IsProcessGraph → assembly ≡ assembly_of state.rows (days_of period) → assembly ≢ Err NoMemory
    → (text : List ℕ) × ReportsBy state [] (period_names state.rows (days_of period)) period.name assembly text
some_report studies certified least tested state period (Ok graph) asked graphs within is sure =
    let named = period_names_are state.rows (days_of period) graph (graphs.named (days_of period)) is in
    some_study_text studies certified least tested state [] (period_names state.rows (days_of period)) period.name graph asked within named
some_report studies certified least tested state period (Err (Over j)) asked graphs within is sure = (_, refl)
some_report studies certified least tested state period (Err NoMemory) asked graphs within is sure = absurd (sure refl)

some_reports : SomeStudyLaw → CertifiedLaw → LeastThroughoutLaw → TestedLaw → (state : SessionState) (i : ℕ) → AreOptions state.options → HaveGraphs state.rows
    → i < length (periods_of state.rows) → (text : List ℕ) × Reports state (slice_get (periods_of state.rows) i) text
some_reports studies certified least tested state i asked graphs there =
    let period = get_or (periods_of state.rows) i some_period in
    let graph = period_graph state.rows (days_of period) in
    let within = graphs.periods i some_period there in
    let (text, reports) = some_report studies certified least tested state period (assembly_of state.rows (days_of period)) asked graphs within refl (never_memory graph _) in
    (text, subst (λ (found : Option Period). Reports state found text) (sym (slice_get-get_or (periods_of state.rows) i some_period there)) reports)

-- ---- the balance of a component

-- What is known about studies, component graphs and grades.
pub record HaveBalances (rows : List StoredRow) : Type 0 where
  pub studies : SomeStudyLaw
  pub certified : CertifiedLaw
  pub least : LeastThroughoutLaw
  pub tested : TestedLaw
  pub formed : FormedLaw
  pub graph : ComponentFormLaw
  pub critical : AreCritical (critical_of rows)
  pub grades : (component period stream : List ℕ) → IfSome (grade_of rows component period stream) IsGrade

all_map : {X Y : Type 0} (P : Y → Type 0) (f : X → Y) (xs : List X) → ((x : X) → P (f x)) → All P (map f xs)
all_map P f xs holds = All-map P f xs (λ k d lt. holds (get_or xs k d))

-- the only reason for a missing component graph is a stream beyond the limits
never_fault : (graph : ProcessGraph) (found : Option ℕ) → component_unless graph found ≡ Err fault.NoMemory → ⊥
never_fault graph (Some stream) is = cc is
never_fault graph None is = cc is

-- the balance of a component in a period with this graph
some_balance_of : (state : SessionState) → HaveBalances state.rows → (component : List ℕ) (period : Period) (graph : ProcessGraph) → AreOptions state.options → IsProcessGraph graph
    → AreNamesOf (period_names state.rows (days_of period)) graph
    → (text : List ℕ) × (answer : Result ProcessGraph Assembly) × IsBalanceOf state graph (grades_of state.rows component period) answer
    × ReportsBy state (component_row component period.name ∷ []) (period_names state.rows (days_of period)) period.name answer text
some_balance_of state known component period graph asked within named = by (component_of graph last.0.streams grades) refl
  where
    names : Names
    names = period_names state.rows (days_of period)

    grades : List (Option Grade)
    grades = grades_of state.rows component period

    studied : (study : Study) × IsStudyOf graph state.options (critical_of state.rows) study
    studied = known.studies graph state.options (critical_of state.rows) within asked

    last : (last : Stage) × (last_stage studied.0 ≡ Some last)
    last = last_there studied.0 studied.1.rounds.between

    results : length last.0.streams ≡ length graph.streams
    results = each_result graph studied.0 last.0 (known.formed graph state.options (critical_of state.rows) studied.0 within asked known.critical studied.1) last.1

    graded : length grades ≡ length graph.streams
    graded = length-map names.streams (grade_of state.rows component period.name) ∙ named.each.streams

    are_grades : All (λ (grade : Option Grade). IfSome grade IsGrade) grades
    are_grades = all_map (λ (grade : Option Grade). IfSome grade IsGrade) (grade_of state.rows component period.name) names.streams (known.grades component period.name)

    is_balance : (r : Result ProcessGraph ComponentFault) → component_of graph last.0.streams grades ≡ r → IsBalanceOf state graph grades (component_assembly r)
    is_balance r is = record {
      limits = within;
      study = studied.0;
      is_study = studied.1;
      last = last.0;
      is_last = last.1;
      is = ap component_assembly (sym is);
    }

    by : (r : Result ProcessGraph ComponentFault) → component_of graph last.0.streams grades ≡ r
        → (text : List ℕ) × (answer : Result ProcessGraph Assembly) × IsBalanceOf state graph grades answer
        × ReportsBy state (component_row component period.name ∷ []) names period.name answer text
    by (Ok whole) is =
        let limits = known.graph graph whole last.0.streams grades within results graded are_grades is in
        let own = names_as names graph whole named (counts_of graph whole last.0.streams grades results graded is) in
        let (text, report) = some_study_text known.studies known.certified known.least known.tested state (component_row component period.name ∷ []) names period.name whole asked limits own in
        (text, Ok whole, is_balance (Ok whole) is, report)
    by (Err (fault.Over j)) is = (_, Err (Over j), is_balance (Err (fault.Over j)) is, refl)
    by (Err fault.NoMemory) is = absurd (never_fault (record { nodes = graph.nodes; streams = component_streams graph.streams last.0.streams grades }) _ is)

some_balance : (state : SessionState) → HaveBalances state.rows → (component : List ℕ) (period : Period) (assembly : Result ProcessGraph Assembly) → AreOptions state.options → HaveGraphs state.rows
    → IfOk assembly IsProcessGraph → assembly ≡ assembly_of state.rows (days_of period) → assembly ≢ Err NoMemory
    → (text : List ℕ) × (answer : Result ProcessGraph Assembly) × BalancesIn state (grades_of state.rows component period) assembly answer
    × ReportsBy state (component_row component period.name ∷ []) (period_names state.rows (days_of period)) period.name answer text
some_balance state known component period (Ok graph) asked graphs within is sure =
    some_balance_of state known component period graph asked within (period_names_are state.rows (days_of period) graph (graphs.named (days_of period)) is)
some_balance state known component period (Err (Over j)) asked graphs within is sure = (_, Err (Over j), refl, refl)
some_balance state known component period (Err NoMemory) asked graphs within is sure = absurd (sure refl)

some_balances : (state : SessionState) → HaveBalances state.rows → (component : List ℕ) (i : ℕ) → AreOptions state.options → HaveGraphs state.rows → i < length (periods_of state.rows)
    → (text : List ℕ) × Balances state component (slice_get (periods_of state.rows) i) text
some_balances state known component i asked graphs there =
    let period = get_or (periods_of state.rows) i some_period in
    let graph = period_graph state.rows (days_of period) in
    let within = graphs.periods i some_period there in
    let (text, answer, of, by) = some_balance state known component period (assembly_of state.rows (days_of period)) asked graphs within refl (never_memory graph _) in
    let balance : Balances state component (Some period) text = (answer, of, by) in
    (text, subst (λ (found : Option Period). Balances state component found text) (sym (slice_get-get_or (periods_of state.rows) i some_period there)) balance)

-- ---- a window of several periods

-- what holds for a window that there is no cause to refuse: what a book says about it, and that its graph is within the limits, if
-- it has one
pub record HasWindow (rows : List StoredRow) (first last : Period) : Type 0 where
  pub made : IsBookWindow rows first last
  pub within : IfOk (assembly_between rows first last) IsProcessGraph

abbrev pub HaveWindows : List StoredRow → Type 0
HaveWindows rows = (first last : Period) → window_refusal rows first last ≡ None → HasWindow rows first last

pub have_windows : BookWindowsLaw → WindowGraphsLaw → (rows : List StoredRow) → AreAccepted rows → HaveWindows rows
have_windows books graphs rows accepted first last none =
    let made = books rows first last accepted none in
    record { made = made; within = graphs rows (periods_between (periods_of rows) first last) (window_between rows first last) accepted made.form }

some_window_by : (state : SessionState) → HaveBalances state.rows → (first last : Period) (assembly : Result ProcessGraph Assembly) → AreOptions state.options → IsBookWindow state.rows first last
    → IfOk assembly IsProcessGraph → assembly ≡ assembly_between state.rows first last → assembly ≢ Err NoMemory
    → (text : List ℕ) × ReportsBy state (window_head state.rows first last) (window_names (window_between state.rows first last)) first.name assembly text
some_window_by state known first last (Ok graph) asked made within is sure =
    let names = window_names (window_between state.rows first last) in
    let named = graph_names_are names graph (window_names_are state.rows (periods_between (periods_of state.rows) first last) (window_between state.rows first last) graph made.names is) in
    some_study_text known.studies known.certified known.least known.tested state (window_head state.rows first last) names first.name graph asked within named
some_window_by state known first last (Err (Over j)) asked made within is sure = (_, refl)
some_window_by state known first last (Err NoMemory) asked made within is sure = absurd (sure refl)

some_window : (state : SessionState) → HaveBalances state.rows → (i k : ℕ) → AreOptions state.options → HaveWindows state.rows → IsWindowAsked state.rows i k
    → (text : List ℕ) × Windows state (slice_get (periods_of state.rows) i) (slice_get (periods_of state.rows) k) text
some_window state known i k asked windows window =
    let it = windows window.one window.other window.no_cause in
    let (text, by) = some_window_by state known window.one window.other (assembly_between state.rows window.one window.other) asked it.made it.within refl (never_memory _ _) in
    (text, windows_at state i k window.one window.other (assembly_between state.rows window.one window.other) text window.first_is window.last_is refl by)

-- ---- a record

some_history : (state : SessionState) (i : ℕ) → i < length (periods_of state.rows) → (text : List ℕ) × IsHistoryText state (slice_get (periods_of state.rows) i) text
some_history state i there =
    let period = get_or (periods_of state.rows) i some_period in
    let text = text_in state.form (history_rows period.name period.closed (history_of state.rows period)) in
    (text, subst (λ (found : Option Period). IsHistoryText state found text) (sym (slice_get-get_or (periods_of state.rows) i some_period there)) refl)

some_advice : SomeAdviceLaw → CheapestLaw → (state : SessionState) (costs : List NamedCost) → HaveGraphs state.rows → All IsMeterCost (meter_costs (declared_of state.rows) costs)
    → (text : List ℕ) × AddsAccepted state costs Advise text
some_advice advices cheapest state costs graphs within =
    let each = costs_are base_of state.rows costs within in
    let (advice, is) = advices (design_graph state.rows) (meter_costs (declared_of state.rows) costs) in (
      _,
      record {
        limits = graphs.design;
        named = names_are base_of state.rows graphs.names;
        each_costs = each;
        advice = advice;
        is_advice = is;
        cheapest = cheapest (design_graph state.rows) (meter_costs (declared_of state.rows) costs) advice graphs.design each is;
        rows = refl;
      },
    )

-- what meters cost if advice is asked for
abbrev HasCosts : List StoredRow → List NamedCost → Answer → Type 0
HasCosts rows costs answer = answer ≡ Says Advise → All IsMeterCost (meter_costs (declared_of rows) costs)

some_answer : SomeClassificationLaw → SomeAdviceLaw → CheapestLaw → (state : SessionState) → HaveBalances state.rows → (at : ℕ) (costs : List NamedCost) (answer : Answer)
    → AreOptions state.options → HaveGraphs state.rows → HaveWindows state.rows → AnswersOf state.rows answer → HasCosts state.rows costs answer → (text : List ℕ) × AddsBy state at costs answer text
some_answer classifications advices cheapest state known at costs (Refuses cause) asked graphs windows of within = (_, refl)
some_answer classifications advices cheapest state known at costs (Stores row) asked graphs windows of within = ([], refl)
some_answer classifications advices cheapest state known at costs (Says Blank) asked graphs windows of within = ([], refl)
some_answer classifications advices cheapest state known at costs (Says Accepted.Stored) asked graphs windows of within = ([], refl)
some_answer classifications advices cheapest state known at costs (Says Design) asked graphs windows of within =
    let (classes, are) = classifications (design_graph state.rows) graphs.design in
    (_, record { limits = graphs.design; named = names_are base_of state.rows graphs.names; classes = classes; are = are; rows = refl })
some_answer classifications advices cheapest state known at costs (Says (Report i)) asked graphs windows of within = some_reports known.studies known.certified known.least known.tested state i asked graphs of
some_answer classifications advices cheapest state known at costs (Says (History i)) asked graphs windows of within = some_history state i of
some_answer classifications advices cheapest state known at costs (Says (Component component i)) asked graphs windows of within = some_balances state known component i asked graphs of
some_answer classifications advices cheapest state known at costs (Says (Window i k)) asked graphs windows of within = some_window state known i k asked windows of
some_answer classifications advices cheapest state known at costs (Says Advise) asked graphs windows of within = some_advice advices cheapest state costs graphs (within refl)

-- What is known about all accepted rows.
pub record AreKnown : Type 0 where
  pub classifications : SomeClassificationLaw
  pub advices : SomeAdviceLaw
  pub cheapest : CheapestLaw
  pub costs : MeterCostsLaw
  pub graphs : GraphsLaw
  pub accepted : AcceptedLaw
  pub balances : (rows : List StoredRow) → AreAccepted rows → HaveBalances rows
  pub windows : (rows : List StoredRow) → AreAccepted rows → HaveWindows rows

pub some_text : AreKnown → SomeTextLaw
some_text known state at fields asked accepted =
    some_answer known.classifications known.advices known.cheapest state (known.balances state.rows accepted) at (named_costs fields) (answer_of state.rows fields) asked
    (known.graphs state.rows accepted) (known.windows state.rows accepted) (answers state.rows fields) (known.costs state.rows fields)

pub some_session_text : AreKnown → SomeSessionTextLaw
some_session_text known state at [] asked accepted = ([], refl)
some_session_text known state at (fields ∷ records) asked accepted =
    let (first, adds) = some_text known state at fields asked accepted in
    let (rest, texts) = some_session_text known (state_after state at fields) (at + 1) records asked (known.accepted.go_on state.rows at fields accepted) in
    (first ++ rest, (first, rest, adds, texts, refl))
