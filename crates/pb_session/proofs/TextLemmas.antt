-- What a record adds to the output is one text.
use Rattle.std.proofs.Common.{◌≡◌, ◌∙◌, ℕ, ◌+◌, List, [], ◌∷◌, ◌++◌, Option, Some, None, Result, Ok, Err, slice_get, sym, ap, subst}
use Rattle.pb_rows.specs.declared.name.Names.{Names}
use Rattle.pb_plan.specs.Codes.{window_names}
use Rattle.pb_graph.specs.declared.records.Classified.{Classified}
use Rattle.pb_graph.specs.ProcessGraph.{ProcessGraph}
use Rattle.pb_classify.specs.Laws.{OneClassificationLaw}
use Rattle.pb_advise.specs.declared.advice.Advice.{Advice}
use Rattle.pb_advise.specs.Laws.{OneAdviceLaw}
use Rattle.pb_facts.specs.declared.grade.Grade.{Grade}
use Rattle.pb_grades.specs.Component.{component_of}
use Rattle.pb_study.specs.declared.results.Stage.{Stage}
use Rattle.pb_study.specs.declared.results.Study.{Study}
use Rattle.pb_elim.specs.Laws.{OneStudyLaw}
use Rattle.pb_site.specs.Site.{names_of}
use Rattle.pb_kinds.specs.declared.costs.NamedCost.{NamedCost}
use Rattle.pb_kinds.specs.Costs.{named_costs}
use Rattle.pb_book.specs.Costs.{meter_costs}
use Rattle.pb_book.specs.declared.answer.Accepted.{Accepted}
use Rattle.pb_book.specs.declared.answer.Accepted.TheVariants.{Blank, Design, Report, History, Advise, Component, Window}
use Rattle.pb_periods.specs.declared.period.Period.{Period}
use Rattle.pb_book.specs.Rows.{declared_of, periods_of}
use Rattle.pb_book.specs.Windows.{window_between}
use Rattle.pb_book.specs.Answer.{Answer, Refuses, Says, Stores, answer_of}
use Rattle.pb_period.specs.Days.{days_of}
use Rattle.pb_period.specs.Grades.{grades_of}
use Rattle.pb_period.specs.declared.graph.Assembly.{Assembly}
use Rattle.pb_period.specs.declared.graph.Assembly.TheVariants.{Over, NoMemory}
use Rattle.pb_period.specs.PeriodGraph.{assembly_of, design_graph, period_names}
use Rattle.pb_report.specs.Component.{component_row}
use Rattle.pb_report.specs.Form.{text_in}
use Rattle.pb_report.specs.Row.{OutputRow}
use Rattle.pb_report.specs.Advice.{advice_rows}
use Rattle.pb_report.specs.Design.{design_rows}
use Rattle.pb_report.specs.Study.{study_rows}
use Rattle.pb_session.specs.Criticals.{critical_of}
use Rattle.pb_assay.specs.Balance.{component_assembly}
use Rattle.pb_window.specs.Between.{assembly_between}
use Rattle.pb_session.specs.Session.{AddsAccepted, AddsBy, Balances, BalancesIn, IsBalanceOf, IsReport, SessionState, Reports, ReportsBy, IsHistoryText, Windows, last_stage, state_after, window_head}
use Rattle.pb_session.specs.Laws.{OneTextLaw, OneSessionTextLaw}

-- the report of a graph, after some rows
study_text : OneStudyLaw → (state : SessionState) (before : List OutputRow) (names : Names) (period : List ℕ) (graph : ProcessGraph) (one other : List ℕ)
    → IsReport state before names period graph one → IsReport state before names period graph other → one ≡ other
study_text law state before names period graph one other a b =
    let text : Study → List ℕ = λ study. text_in state.form (before ++ study_rows names period state.options study) in
    a.rows ∙ ap text (law graph state.options (critical_of state.rows) a.study b.study a.limits a.is_study b.is_study) ∙ sym b.rows

reports_by_text : OneStudyLaw → (state : SessionState) (before : List OutputRow) (names : Names) (period : List ℕ) (assembly : Result ProcessGraph Assembly) (one other : List ℕ)
    → ReportsBy state before names period assembly one → ReportsBy state before names period assembly other → one ≡ other
reports_by_text law state before names period (Ok graph) one other a b = study_text law state before names period graph one other a b
reports_by_text law state before names period (Err (Over j)) one other a b = a ∙ sym b
reports_by_text law state before names period (Err NoMemory) one other a b = absurd a

report_text : OneStudyLaw → (state : SessionState) (period : Option Period) (one other : List ℕ) → Reports state period one → Reports state period other → one ≡ other
report_text law state (Some period) one other a b =
    reports_by_text law state [] (period_names state.rows (days_of period)) period.name (assembly_of state.rows (days_of period)) one other a b
report_text law state None one other a b = absurd a

-- ---- the balance of a component

same_stage : (a b : Stage) (o : Option Stage) → o ≡ Some a → o ≡ Some b → a ≡ b
same_stage a b o one other = cc (one, other)

-- a graph has one component graph
one_balance : OneStudyLaw → (state : SessionState) (graph : ProcessGraph) (grades : List (Option Grade)) (one other : Result ProcessGraph Assembly)
    → IsBalanceOf state graph grades one → IsBalanceOf state graph grades other → one ≡ other
one_balance law state graph grades one other a b =
    let same : a.study ≡ b.study = law graph state.options (critical_of state.rows) a.study b.study a.limits a.is_study b.is_study in
    let last : a.last ≡ b.last = same_stage a.last b.last (last_stage b.study) (ap last_stage (sym same) ∙ a.is_last) b.is_last in
    a.is ∙ ap (λ (stage : Stage). component_assembly (component_of graph stage.streams grades)) last ∙ sym b.is

balance_in : OneStudyLaw → (state : SessionState) (grades : List (Option Grade)) (assembly one other : Result ProcessGraph Assembly)
    → BalancesIn state grades assembly one → BalancesIn state grades assembly other → one ≡ other
balance_in law state grades (Ok graph) one other a b = one_balance law state graph grades one other a b
balance_in law state grades (Err why) one other a b = a ∙ sym b

balance_text : OneStudyLaw → (state : SessionState) (component : List ℕ) (period : Option Period) (one other : List ℕ)
    → Balances state component period one → Balances state component period other → one ≡ other
balance_text law state component (Some period) one other (a, a_of, a_by) (b, b_of, b_by) =
    let same : a ≡ b = balance_in law state (grades_of state.rows component period) (assembly_of state.rows (days_of period)) a b a_of b_of in
    let rows = component_row component period.name ∷ [] in
    let names = period_names state.rows (days_of period) in
    reports_by_text law state rows names period.name b one other (subst (λ (answer : Result ProcessGraph Assembly). ReportsBy state rows names period.name answer one) same a_by) b_by
balance_text law state component None one other a b = absurd a

-- ---- a window of several periods

window_text : OneStudyLaw → (state : SessionState) (first last : Option Period) (one other : List ℕ) → Windows state first last one → Windows state first last other → one ≡ other
window_text law state (Some first) (Some last) one other a b =
    reports_by_text law state (window_head state.rows first last) (window_names (window_between state.rows first last)) first.name (assembly_between state.rows first last) one other a b
window_text law state (Some first) None one other a b = absurd a
window_text law state None last one other a b = absurd a

-- ---- a record

history_text : (state : SessionState) (period : Option Period) (one other : List ℕ) → IsHistoryText state period one → IsHistoryText state period other → one ≡ other
history_text state (Some period) one other a b = a ∙ sym b
history_text state None one other a b = absurd a

accepted_text : OneClassificationLaw → OneAdviceLaw → OneStudyLaw → (state : SessionState) (costs : List NamedCost) (accepted : Accepted) (one other : List ℕ)
    → AddsAccepted state costs accepted one → AddsAccepted state costs accepted other → one ≡ other
accepted_text law advices studies state costs Blank one other a b = a ∙ sym b
accepted_text law advices studies state costs Accepted.Stored one other a b = a ∙ sym b
accepted_text law advices studies state costs Design one other a b =
    let text : List Classified → List ℕ = λ classes. text_in state.form (design_rows (names_of (declared_of state.rows)) (design_graph state.rows) classes) in
    a.rows ∙ ap text (law (design_graph state.rows) a.classes b.classes a.are b.are) ∙ sym b.rows
accepted_text law advices studies state costs (Report i) one other a b = report_text studies state (slice_get (periods_of state.rows) i) one other a b
accepted_text law advices studies state costs (History i) one other a b = history_text state (slice_get (periods_of state.rows) i) one other a b
accepted_text law advices studies state costs (Component component i) one other a b = balance_text studies state component (slice_get (periods_of state.rows) i) one other a b
accepted_text law advices studies state costs (Window first last) one other a b =
    window_text studies state (slice_get (periods_of state.rows) first) (slice_get (periods_of state.rows) last) one other a b
accepted_text law advices studies state costs Advise one other a b =
    let text : Advice → List ℕ = λ advice. text_in state.form (advice_rows (names_of (declared_of state.rows)) advice) in
    a.rows ∙ ap text (advices (design_graph state.rows) (meter_costs (declared_of state.rows) costs) a.advice b.advice a.is_advice b.is_advice) ∙ sym b.rows

answer_text : OneClassificationLaw → OneAdviceLaw → OneStudyLaw → (state : SessionState) (at : ℕ) (costs : List NamedCost) (answer : Answer) (one other : List ℕ)
    → AddsBy state at costs answer one → AddsBy state at costs answer other → one ≡ other
answer_text law advices studies state at costs (Refuses cause) one other a b = a ∙ sym b
answer_text law advices studies state at costs (Stores row) one other a b = a ∙ sym b
answer_text law advices studies state at costs (Says accepted) one other a b = accepted_text law advices studies state costs accepted one other a b

pub record_text : OneClassificationLaw → OneAdviceLaw → OneStudyLaw → OneTextLaw
record_text law advices studies state at fields one other a b = answer_text law advices studies state at (named_costs fields) (answer_of state.rows fields) one other a b

pub session_text : OneClassificationLaw → OneAdviceLaw → OneStudyLaw → OneSessionTextLaw
session_text law advices studies state at [] one other a b = a ∙ sym b
session_text law advices studies state at (fields ∷ records) one other (first, rest, adds, more, whole) (first2, rest2, adds2, more2, whole2) =
    let same_first = record_text law advices studies state at fields first first2 adds adds2 in
    let same_rest = session_text law advices studies (state_after state at fields) (at + 1) records rest rest2 more more2 in
    whole ∙ ap (λ (t : List ℕ). t ++ rest) same_first ∙ ap (λ (t : List ℕ). first2 ++ t) same_rest ∙ sym whole2
