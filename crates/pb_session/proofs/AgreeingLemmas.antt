-- Sessions that agree on a period have the same report of it.
use Rattle.std.proofs.Common.{◌≡◌, ◌∙◌, ◌↔◌, ℕ, List, [], ◌∷◌, ◌++◌, map, Option, Some, None, Result, slice_get, refl, sym, ap, ap₂, subst, inl, inr}
use Rattle.std.specs.Prelude.{option_map}
use Rattle.std.proofs.lemmas.Bool.{cases_Bool}
use Rattle.std.proofs.lemmas.List.{append-nil}
use Rattle.std.proofs.lemmas.List.Elements.{filter_map-append}
use Rattle.std.proofs.lemmas.List.Sums.{fold_push}
use Rattle.std.proofs.lemmas.Option.{slice_get-map}
use Rattle.pb_graph.specs.ProcessGraph.{ProcessGraph}
use Rattle.pb_facts.specs.declared.facts.KeptFact.{KeptFact}
use Rattle.pb_facts.specs.Facts.{live_facts}
use Rattle.pb_kinds.specs.declared.rows.Effect.{Effect}
use Rattle.pb_kinds.specs.declared.rows.Effect.TheVariants.{Closes}
use Rattle.pb_kinds.specs.declared.rows.StoredRow.{StoredRow}
use Rattle.pb_periods.specs.declared.period.Period.{Period}
use Rattle.pb_periods.specs.Apart.{is_named}
use Rattle.pb_periods.specs.Closing.{closed_if_named}
use Rattle.pb_book.specs.Plain.{booked, numbered, opened, plain_stored, settled, settled_rows}
use Rattle.pb_book.specs.Rows.{declaration_in, declared_of, facts_after, facts_of, periods_after, periods_of, with_row}
use Rattle.pb_period.specs.Days.{days_of}
use Rattle.pb_period.specs.declared.days.Days.{Days}
use Rattle.pb_period.specs.declared.graph.Assembly.{Assembly}
use Rattle.pb_period.specs.Laws.{AgreeingLaw, HaveSameGraphs, PlainGraphsLaw}
use Rattle.pb_period.specs.PeriodGraph.{assembly_of, period_names}
use Rattle.pb_session.proofs.EditedLemmas.{reports_by_as}
use Rattle.pb_session.specs.Agreeing.{AgreeingReportLaw, ClosingLaw, with_stored}
use Rattle.pb_session.specs.Session.{Reports, ReportsBy, SessionState}

-- the report of a period with this name and these days, in a session with these rows
abbrev ReportsOn : SessionState → List StoredRow → List ℕ → Days → List ℕ → Type 0
ReportsOn state rows name days text = ReportsBy (with_stored state rows) [] (period_names rows days) name (assembly_of rows days) text

-- rows that declare the same and give some days the same graph and names
carried : (state : SessionState) (rows other : List StoredRow) (name : List ℕ) (days : Days) (text : List ℕ) → declared_of rows ≡ declared_of other
    → assembly_of rows days ≡ assembly_of other days → period_names rows days ≡ period_names other days → ReportsOn state rows name days text → ReportsOn state other name days text
carried state rows other name days text declared graph names report =
    subst (λ (a : Result ProcessGraph Assembly). ReportsBy (with_stored state other) [] (period_names other days) name a text) graph
    (reports_by_as state rows other [] (period_names rows days) (period_names other days) name (assembly_of rows days) text declared names report)

pub agreeing_report : AgreeingLaw → AgreeingReportLaw
agreeing_report law state rows period twin text accepted apart agree same =
    let leaves = law state.rows rows period accepted apart agree in
    let name : twin.name ≡ period.name = ap (λ (p : Period). p.name) same in
    let days : days_of twin ≡ days_of period = ap days_of same in
    let moved : ReportsOn state rows twin.name (days_of twin) text ≡ ReportsOn state rows period.name (days_of period) text =
    ap₂ (λ (n : List ℕ) (d : Days). ReportsOn state rows n d text) name days in (
      λ report. subst (λ (X : Type 0). X) (sym moved) (carried state state.rows rows period.name (days_of period) text (sym agree.declared) (sym leaves.graph) (sym leaves.names) report),
      λ report. carried state rows state.rows period.name (days_of period) text agree.declared leaves.graph leaves.names (subst (λ (X : Type 0). X) moved report),
    )

-- ---- closing
-- the plain rows are the same after a closing
declared_kept : (rows : List StoredRow) (at : ℕ) (name : List ℕ) → declared_of (with_row rows at (Closes name)) ≡ declared_of rows
declared_kept rows at name =
    filter_map-append (λ (s : StoredRow). declaration_in s.effect) rows (let s : StoredRow = record { at = at; effect = Closes name } in s ∷ []) ∙ append-nil (declared_of rows)

settled_kept : (rows : List StoredRow) (at : ℕ) (name : List ℕ) → settled_rows (with_row rows at (Closes name)) ≡ settled_rows rows
settled_kept rows at name =
    filter_map-append (λ (s : StoredRow). settled s.effect) rows (let s : StoredRow = record { at = at; effect = Closes name } in s ∷ []) ∙ append-nil (settled_rows rows)

facts_kept : (rows : List StoredRow) (at : ℕ) (name : List ℕ) → facts_of (with_row rows at (Closes name)) ≡ facts_of rows
facts_kept rows at name = fold_push (λ (kept : List KeptFact) (s : StoredRow). facts_after kept s.effect) [] rows (let s : StoredRow = record { at = at; effect = Closes name } in s)

plain_kept : (rows : List StoredRow) (at : ℕ) (name : List ℕ) → plain_stored (with_row rows at (Closes name)) ≡ plain_stored rows
plain_kept rows at name =
    ap₂ (λ (effects : List Effect) (kept : List KeptFact). numbered 1 (effects ++ map booked (live_facts kept))) (settled_kept rows at name) (facts_kept rows at name)

periods_kept : (rows : List StoredRow) (at : ℕ) (name : List ℕ) → periods_of (with_row rows at (Closes name)) ≡ map (closed_if_named name) (periods_of rows)
periods_kept rows at name = fold_push (λ (periods : List Period) (s : StoredRow). periods_after periods s.effect) [] rows (let s : StoredRow = record { at = at; effect = Closes name } in s)

-- a closed period has its name and its days
closed_same : (name : List ℕ) (period : Period) → opened (closed_if_named name period) ≡ opened period
closed_same name period = elim (cases_Bool (is_named name period)) [ inl here ↦ rw here refl | inr other ↦ rw other refl ]

-- both sessions have the graphs of the plain rows
same_days : (rows : List StoredRow) (at : ℕ) (name : List ℕ) (days : Days) → HaveSameGraphs rows (plain_stored rows) → HaveSameGraphs (with_row rows at (Closes name)) (plain_stored (with_row rows at (Closes name)))
    → (assembly_of rows days ≡ assembly_of (with_row rows at (Closes name)) days) × (period_names rows days ≡ period_names (with_row rows at (Closes name)) days)
same_days rows at name days before after = (
  sym (before.days days) ∙ ap (λ (rs : List StoredRow). assembly_of rs days) (sym (plain_kept rows at name)) ∙ after.days days,
  sym (before.names days) ∙ ap (λ (rs : List StoredRow). period_names rs days) (sym (plain_kept rows at name)) ∙ after.names days,
)

pub closing : PlainGraphsLaw → ClosingLaw
closing graphs state at i name text accepted accepted_after =
    let rows = with_row state.rows at (Closes name) in
    let found : slice_get (periods_of rows) i ≡ option_map (closed_if_named name) (slice_get (periods_of state.rows) i) =
    ap (λ (ps : List Period). slice_get ps i) (periods_kept state.rows at name) ∙ slice_get-map (closed_if_named name) (periods_of state.rows) i in
    let both = by (slice_get (periods_of state.rows) i) in (
      λ report. subst (λ (o : Option Period). Reports (with_stored state rows) o text) (sym found) (both.0 report),
      λ report. both.1 (subst (λ (o : Option Period). Reports (with_stored state rows) o text) found report),
    )
  where
    by : (o : Option Period) → Reports state o text ↔ Reports (with_stored state (with_row state.rows at (Closes name))) (option_map (closed_if_named name) o) text
    by None = ((λ report. absurd report), (λ report. absurd report))
    by (Some period) =
        let rows = with_row state.rows at (Closes name) in
        let twin = closed_if_named name period in
        let same = same_days state.rows at name (days_of period) (graphs state.rows accepted) (graphs rows accepted_after) in
        let moved : ReportsOn state rows twin.name (days_of twin) text ≡ ReportsOn state rows period.name (days_of period) text =
        ap (λ (p : Period). ReportsOn state rows p.name (days_of p) text) (closed_same name period) in (
          λ report. subst (λ (X : Type 0). X) (sym moved) (carried state state.rows rows period.name (days_of period) text (sym (declared_kept state.rows at name)) same.0 same.1 report),
          λ report. carried state rows state.rows period.name (days_of period) text (declared_kept state.rows at name) (sym same.0) (sym same.1) (subst (λ (X : Type 0). X) moved report),
        )
