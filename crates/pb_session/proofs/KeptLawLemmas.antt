-- Which periods a session keeps: exactly one list, and not too many.
use Rattle.std.specs.Prelude.{not, ◌==◌}
use Rattle.std.proofs.Common.{◌≡◌, ◌∙◌, ◌≤◌, ℕ, ◌+◌, List, [], ◌∷◌, length, IfOk, Option, Some, None, Result, Ok, Err, slice_get, get_or, refl, sym, ap, subst, inl, inr}
use Rattle.std.proofs.lemmas.Bool.{cases_Bool}
use Rattle.std.proofs.lemmas.Option.{get_or_from_slice_get, slice_get-get_or, slice_get_within}
use Rattle.pb_study.specs.declared.results.Study.{Study}
use Rattle.pb_graph.specs.ProcessGraph.{ProcessGraph, IsProcessGraph}
use Rattle.pb_elim.specs.Laws.{OneStudyLaw, SomeStudyLaw}
use Rattle.pb_study.specs.Options.{AreOptions}
use Rattle.pb_book.specs.declared.answer.Accepted.{Accepted}
use Rattle.pb_book.specs.declared.answer.Accepted.TheVariants.{Report}
use Rattle.pb_periods.specs.declared.period.Period.{Period}
use Rattle.pb_book.specs.Answer.{Answer, Refuses, Says, Stores, answer_of}
use Rattle.pb_book.specs.Laws.{AcceptedLaw}
use Rattle.pb_kinds.specs.declared.rows.StoredRow.{StoredRow}
use Rattle.pb_book.specs.Rows.{periods_of, with_row}
use Rattle.pb_period.specs.Days.{days_of}
use Rattle.pb_period.specs.Laws.{GraphsLaw, HaveGraphs}
use Rattle.pb_period.specs.declared.graph.Assembly.{Assembly}
use Rattle.pb_period.specs.PeriodGraph.{assembly_of}
use Rattle.pb_session.specs.Criticals.{critical_of}
use Rattle.pb_session.specs.Kept.{AreKept, KeepsAccepted, KeepsBy, KeepsReport, KeepsReportOf, kept_behind, most_kept, untouched, without}
use Rattle.pb_session.specs.KeptLaws.{FewKeptLaw, KeptTextLaw, OneKeptLaw, SomeKeptLaw}
use Rattle.pb_session.specs.Laws.{OneTextLaw}
use Rattle.pb_session.specs.Session.{Adds, SessionState, state_after}
use Rattle.pb_session.proofs.KeptLemmas.{few_filter, few_take}
use Rattle.pb_session.proofs.RowLemmas.{AnswersOf, answers, some_period}

-- the graph of a period is within the limits
within : (rows : List StoredRow) (i : ℕ) (period : Period) → HaveGraphs rows → slice_get (periods_of rows) i ≡ Some period → IfOk (assembly_of rows (days_of period)) IsProcessGraph
within rows i period graphs at =
    let here : get_or (periods_of rows) i period ≡ period = get_or_from_slice_get (periods_of rows) i period period at in
    subst (λ (p : Period). IfOk (assembly_of rows (days_of p)) IsProcessGraph) here (graphs.periods i period (slice_get_within (periods_of rows) i period at))

-- ---- one

one_report : OneStudyLaw → (state : SessionState) (i : ℕ) (kept : List ℕ) (a : Result ProcessGraph Assembly) (one other : List ℕ) → IfOk a IsProcessGraph
    → KeepsReport state i kept a one → KeepsReport state i kept a other → one ≡ other
one_report law state i kept (Ok graph) one other limits (study, is_study, is) (study2, is_study2, is2) =
    is ∙ ap (λ (s : Study). kept_behind i s kept) (law graph state.options (critical_of state.rows) study study2 limits is_study is_study2) ∙ sym is2
one_report law state i kept (Err why) one other limits a b = a ∙ sym b

one_report_of : OneStudyLaw → (state : SessionState) (i : ℕ) (kept : List ℕ) (found : Option Period) (one other : List ℕ) → slice_get (periods_of state.rows) i ≡ found → HaveGraphs state.rows
    → KeepsReportOf state i kept found one → KeepsReportOf state i kept found other → one ≡ other
one_report_of law state i kept None one other at graphs a b = absurd a
one_report_of law state i kept (Some period) one other at graphs a b =
    one_report law state i kept (assembly_of state.rows (days_of period)) one other (within state.rows i period graphs at) a b

one_accepted : OneStudyLaw → (state : SessionState) (kept : List ℕ) (accepted : Accepted) (one other : List ℕ) → HaveGraphs state.rows
    → KeepsAccepted state kept accepted one → KeepsAccepted state kept accepted other → one ≡ other
one_accepted law state kept (Report i) one other graphs a b = one_report_of law state i kept (slice_get (periods_of state.rows) i) one other refl graphs a b
one_accepted law state kept accepted one other graphs a b = a ∙ sym b

one_by : OneStudyLaw → (state : SessionState) (kept : List ℕ) (at : ℕ) (answer : Answer) (one other : List ℕ) → HaveGraphs state.rows
    → KeepsBy state kept at answer one → KeepsBy state kept at answer other → one ≡ other
one_by law state kept at (Refuses cause) one other graphs a b = a ∙ sym b
one_by law state kept at (Stores row) one other graphs a b = a ∙ sym b
one_by law state kept at (Says accepted) one other graphs a b = one_accepted law state kept accepted one other graphs a b

pub one_kept : OneStudyLaw → GraphsLaw → AcceptedLaw → OneKeptLaw
one_kept law graphs accepted state kept at [] one other are a b = a ∙ sym b
one_kept law graphs accepted state kept at (fields ∷ records) one other are (first, keeps, rest) (first2, keeps2, rest2) =
    let same : first ≡ first2 = one_by law state kept at (answer_of state.rows fields) first first2 (graphs state.rows are) keeps keeps2 in
    let rest_now : AreKept (state_after state at fields) first2 (at + 1) records one = subst (λ (ks : List ℕ). AreKept (state_after state at fields) ks (at + 1) records one) same rest in
    one_kept law graphs accepted (state_after state at fields) first2 (at + 1) records one other (accepted.go_on state.rows at fields are) rest_now rest2

-- ---- some

some_report : SomeStudyLaw → (state : SessionState) (i : ℕ) (kept : List ℕ) (a : Result ProcessGraph Assembly) → AreOptions state.options → IfOk a IsProcessGraph
    → (new : List ℕ) × KeepsReport state i kept a new
some_report law state i kept (Ok graph) asked limits =
    let (study, is_study) = law graph state.options (critical_of state.rows) limits asked in
    (kept_behind i study kept, (study, is_study, refl))
some_report law state i kept (Err why) asked limits = (without i kept, refl)

some_accepted : SomeStudyLaw → (state : SessionState) (kept : List ℕ) (accepted : Accepted) → AreOptions state.options → HaveGraphs state.rows → AnswersOf state.rows (Says accepted)
    → (new : List ℕ) × KeepsAccepted state kept accepted new
some_accepted law state kept (Report i) asked graphs there = by (slice_get (periods_of state.rows) i) refl
  where
    by : (found : Option Period) → slice_get (periods_of state.rows) i ≡ found → (new : List ℕ) × KeepsReportOf state i kept found new
    by None none = cc (sym none ∙ slice_get-get_or (periods_of state.rows) i some_period there)
    by (Some period) at = some_report law state i kept (assembly_of state.rows (days_of period)) asked (within state.rows i period graphs at)
some_accepted law state kept accepted asked graphs there = (kept, refl)

some_by : SomeStudyLaw → (state : SessionState) (kept : List ℕ) (at : ℕ) (answer : Answer) → AreOptions state.options → HaveGraphs state.rows → AnswersOf state.rows answer
    → (new : List ℕ) × KeepsBy state kept at answer new
some_by law state kept at (Refuses cause) asked graphs of = (kept, refl)
some_by law state kept at (Stores row) asked graphs of = (untouched (with_row state.rows at row) kept, refl)
some_by law state kept at (Says accepted) asked graphs of = some_accepted law state kept accepted asked graphs of

pub some_kept : SomeStudyLaw → GraphsLaw → AcceptedLaw → SomeKeptLaw
some_kept law graphs accepted state kept at [] asked are = (kept, refl)
some_kept law graphs accepted state kept at (fields ∷ records) asked are =
    let (first, keeps) = some_by law state kept at (answer_of state.rows fields) asked (graphs state.rows are) (answers state.rows fields) in
    let (new, rest) = some_kept law graphs accepted (state_after state at fields) first (at + 1) records asked (accepted.go_on state.rows at fields are) in
    (new, (first, keeps, rest))

-- ---- few

few_by_study : (i : ℕ) (study : Study) (kept : List ℕ) → length kept ≤ most_kept → length (kept_behind i study kept) ≤ most_kept
few_by_study i study kept few = elim (cases_Bool (length study.stages == 1)) [
  | inl one ↦ rw one (few_take most_kept (i ∷ without i kept))
  | inr more ↦ rw more (few_filter (λ (k : ℕ). not (k == i)) kept most_kept few)
]

few_report : (state : SessionState) (i : ℕ) (kept new : List ℕ) (a : Result ProcessGraph Assembly) → length kept ≤ most_kept → KeepsReport state i kept a new → length new ≤ most_kept
few_report state i kept new (Ok graph) few (study, is_study, is) = subst (λ (ks : List ℕ). length ks ≤ most_kept) (sym is) (few_by_study i study kept few)
few_report state i kept new (Err why) few is = subst (λ (ks : List ℕ). length ks ≤ most_kept) (sym is) (few_filter _ kept most_kept few)

few_report_of : (state : SessionState) (i : ℕ) (kept new : List ℕ) (found : Option Period) → length kept ≤ most_kept → KeepsReportOf state i kept found new → length new ≤ most_kept
few_report_of state i kept new None few keeps = absurd keeps
few_report_of state i kept new (Some period) few keeps = few_report state i kept new (assembly_of state.rows (days_of period)) few keeps

few_accepted : (state : SessionState) (kept : List ℕ) (accepted : Accepted) (new : List ℕ) → length kept ≤ most_kept → KeepsAccepted state kept accepted new → length new ≤ most_kept
few_accepted state kept (Report i) new few keeps = few_report_of state i kept new (slice_get (periods_of state.rows) i) few keeps
few_accepted state kept accepted new few keeps = subst (λ (ks : List ℕ). length ks ≤ most_kept) (sym keeps) few

few_by : (state : SessionState) (kept : List ℕ) (at : ℕ) (answer : Answer) (new : List ℕ) → length kept ≤ most_kept → KeepsBy state kept at answer new → length new ≤ most_kept
few_by state kept at (Refuses cause) new few keeps = subst (λ (ks : List ℕ). length ks ≤ most_kept) (sym keeps) few
few_by state kept at (Stores row) new few keeps = subst (λ (ks : List ℕ). length ks ≤ most_kept) (sym keeps) (few_filter _ kept most_kept few)
few_by state kept at (Says accepted) new few keeps = few_accepted state kept accepted new few keeps

pub few_kept : FewKeptLaw
few_kept state kept at [] new few keeps = subst (λ (ks : List ℕ). length ks ≤ most_kept) (sym keeps) few
few_kept state kept at (fields ∷ records) new few (first, keeps, rest) =
    few_kept (state_after state at fields) first (at + 1) records new (few_by state kept at (answer_of state.rows fields) first few keeps) rest

-- ---- texts

pub kept_text : OneTextLaw → KeptTextLaw
kept_text law one other at fields text other_text same a b =
    law other.state at fields text other_text (subst (λ (s : SessionState). Adds s at fields text) same a) b
