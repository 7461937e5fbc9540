-- An edited file stands for the edits.
use Rattle.std.proofs.Common.{◌≡◌, ◌∙◌, ◌+◌, ◌<◌, ℕ, suc, ℤ, Bool, false, List, [], ◌∷◌, ◌++◌, length, map, Option, Some, None, Result, Ok, Err, slice_get, position, refl, sym, ap, ap₂, subst, subst₂, arith}
use Rattle.std.specs.Prelude.{◌||◌, ◌↔◌, find, option_map}
use Rattle.std.specs.List.{cons_option, list_any, position_or_len}
use Rattle.std.proofs.lemmas.List.{append-nil, append_assoc, length-map}
use Rattle.std.proofs.lemmas.Option.{slice_get-get_or, slice_get-map}
use Rattle.std.proofs.Math.Seq.{get_or-append_seam, take-append_seam}
use Rattle.std.proofs.Common.{length-append}
use Rattle.pb_graph.specs.ProcessGraph.{ProcessGraph}
use Rattle.pb_rows.specs.declared.name.Names.{Names}
use Rattle.pb_facts.specs.declared.grade.Grade.{Grade}
use Rattle.pb_grades.specs.Component.{component_of}
use Rattle.pb_elim.specs.Study.{IsStudyOf}
use Rattle.pb_site.specs.declared.declared.Declared.{Declared}
use Rattle.pb_site.specs.declared.declared.Version.{Version}
use Rattle.pb_site.specs.Site.{version_of}
use Rattle.pb_book.specs.declared.answer.Accepted.{Accepted}
use Rattle.pb_book.specs.declared.answer.Accepted.TheVariants.{Report, Component, Window, Design, Advise}
use Rattle.pb_book.specs.declared.answer.Refused.{Refused}
use Rattle.pb_form.specs.declared.fault.FormFault.{FormFault}
use Rattle.pb_facts.specs.declared.assays.Assay.{Assay}
use Rattle.pb_kinds.specs.declared.rows.Request.{Request}
use Rattle.pb_kinds.specs.declared.rows.Request.TheVariants as asked
use Rattle.pb_kinds.specs.declared.rows.Effect.{Effect}
use Rattle.pb_kinds.specs.declared.rows.Effect.TheVariants.{Declares, Opens, Books, Edits, Closes, Assays}
use Rattle.pb_facts.specs.declared.fact.Fact.TheVariants.{Reading, Transfer, Dip}
use Rattle.pb_facts.specs.Facts.{live_facts}
use Rattle.pb_plan.specs.Codes.{window_names}
use Rattle.pb_site.specs.Site.{names_of}
use Rattle.pb_periods.specs.declared.period.Period.{Period}
use Rattle.pb_book.specs.Accepted.{AreAccepted, IsAcceptable}
use Rattle.pb_kinds.specs.declared.costs.NamedCost.{NamedCost}
use Rattle.pb_kinds.specs.Costs.{named_costs}
use Rattle.pb_book.specs.Costs.{meter_costs, refusal_of_costs}
use Rattle.pb_book.specs.Answer.{Answer, Says, Stores, after_answer, answer_if, answer_of, component_or_refused, is_refused, window_or_refused, if_known, unless_refused}
use Rattle.pb_book.specs.declared.answer.Accepted.TheVariants as answered
use Rattle.pb_periods.specs.Apart.{is_named}
use Rattle.pb_book.specs.Assays.{assays_of}
use Rattle.pb_facts.specs.Assays.{is_assay_of, is_assay_over}
use Rattle.pb_book.specs.Plain.{ArePlain, PlainLaw, booked, numbered, opened, plain_rows, plain_stored, settled, settled_rows}
use Rattle.pb_book.specs.Refusals.{refusal_of}
use Rattle.pb_book.specs.Windows.{window_between}
use Rattle.pb_kinds.specs.Requests.{request_in}
use Rattle.pb_kinds.specs.declared.rows.StoredRow.{StoredRow}
use Rattle.pb_book.specs.Rows.{declared_of, facts_of, period_place, periods_of, version_at}
use Rattle.pb_book.specs.Written.{WriteRows, WritesRow}
use Rattle.pb_period.specs.Days.{days_of}
use Rattle.pb_period.specs.Grades.{grades_of}
use Rattle.pb_period.specs.Laws.{HaveSameGraphs, PlainGraphsLaw}
use Rattle.pb_period.specs.PeriodGraph.{assembly_of, design_graph, period_names}
use Rattle.pb_period.specs.declared.graph.Assembly.{Assembly}
use Rattle.pb_period.specs.declared.graph.Assembly.TheVariants.{Over, NoMemory}
use Rattle.pb_report.specs.Component.{component_row}
use Rattle.pb_report.specs.Form.{text_in}
use Rattle.pb_report.specs.Names.{name_at}
use Rattle.pb_report.specs.Row.{OutputRow}
use Rattle.pb_report.specs.Over.{over_row}
use Rattle.pb_session.specs.Criticals.{declared_critical}
use Rattle.pb_session.specs.Edited.{EditedFileLaw, begun}
use Rattle.pb_assay.specs.Balance.{component_assembly}
use Rattle.pb_window.specs.Between.{assembly_between}
use Rattle.pb_session.specs.Session.{Adds, AddsAccepted, AddsBy, Balances, BalancesIn, IsAdviceText, IsDesign, IsReport, IsSessionText, Reports, ReportsBy, SessionState, Windows, refuses_some, state_after, window_head}
use Rattle.pb_session.proofs.EditedWindowLemmas.{assembly_same, head_same, same_window, window_same}

-- a session with these rows in place of its own
abbrev pub with_rows : SessionState → List StoredRow → SessionState
with_rows state rows = record { options = state.options; form = state.form; rows = rows }

-- ---- records that write accepted rows

-- a row was acceptable after those before it
pub seam : (done more : List StoredRow) (stored : StoredRow) → AreAccepted (done ++ stored ∷ more) → IsAcceptable done stored.effect
seam done more stored accepted =
    let long = length-append done (stored ∷ more) in
    let here : length done < length (done ++ stored ∷ more) = omega (arith, long) in
    let at = slice_get-get_or (done ++ stored ∷ more) (length done) stored here ∙ ap (λ (s : StoredRow). Some s) (get_or-append_seam done stored more stored) in
    let is = accepted (length done) stored at in
    subst (λ (rs : List StoredRow). IsAcceptable rs stored.effect) (take-append_seam done (stored ∷ more)) is

stored_answer : (rows : List StoredRow) (fields : List (List ℕ)) (effect : Effect) → WritesRow fields effect → IsAcceptable rows effect → answer_of rows fields ≡ Stores effect
stored_answer rows fields effect writes one =
    ap (λ (r : Result Request FormFault). answer_if rows (named_costs fields) r) (writes.asks (version_at rows) one.may) ∙ ap (λ (o : Option Refused). unless_refused (Stores effect) o) one.no_cause

-- none of these records is refused, none adds a text, and so they end
record StoreAll (state : SessionState) (at : ℕ) (records : List (List (List ℕ))) (end : SessionState) : Type 0 where
  none : refuses_some state at records ≡ false
  to : (tail : List (List (List ℕ))) (text : List ℕ) → IsSessionText state at (records ++ tail) text → IsSessionText end (at + length records) tail text
  back : (tail : List (List (List ℕ))) (text : List ℕ) → IsSessionText end (at + length records) tail text → IsSessionText state at (records ++ tail) text

store_none : (state : SessionState) (at : ℕ) → StoreAll state at [] (with_rows state (state.rows ++ []))
store_none state at =
    let same : with_rows state (state.rows ++ []) ≡ state = ap (with_rows state) (append-nil state.rows) in
    let here : at + 0 ≡ at = omega arith in
    record {
      none = refl;
      to = λ tail text is. subst (λ (s : SessionState). IsSessionText s (at + 0) tail text) (sym same) (subst (λ (n : ℕ). IsSessionText state n tail text) (sym here) is);
      back = λ tail text is. subst (λ (n : ℕ). IsSessionText state n tail text) here (subst (λ (s : SessionState). IsSessionText s (at + 0) tail text) same is);
    }

store_one : (state next end : SessionState) (at : ℕ) (fields : List (List ℕ)) (effect : Effect) (records : List (List (List ℕ))) → answer_of state.rows fields ≡ Stores effect → state_after state at fields ≡ next
    → StoreAll next (at + 1) records end → StoreAll state at (fields ∷ records) end
store_one state next end at fields effect records answer after_is rest =
    let here : (at + 1) + length records ≡ at + suc (length records) = omega arith in
    record {
      none = ap₂ (λ (a b : Bool). a || b) (ap is_refused answer) (ap (λ (s : SessionState). refuses_some s (at + 1) records) after_is ∙ rest.none);
      to = λ tail text (first, others, adds, texts, whole).
          let empty : first ≡ [] = subst (λ (a : Answer). AddsBy state at (named_costs fields) a first) answer adds in
          let same : text ≡ others = whole ∙ ap (λ (t : List ℕ). t ++ others) empty in
          let moved = rest.to tail others (subst (λ (s : SessionState). IsSessionText s (at + 1) (records ++ tail) others) after_is texts) in
          subst (λ (n : ℕ). IsSessionText end n tail text) here (subst (λ (t : List ℕ). IsSessionText end ((at + 1) + length records) tail t) (sym same) moved);
      back = λ tail text is.
          let moved = rest.back tail text (subst (λ (n : ℕ). IsSessionText end n tail text) (sym here) is) in
          ([], text, subst (λ (a : Answer). AddsBy state at (named_costs fields) a []) (sym answer) refl, subst (λ (s : SessionState). IsSessionText s (at + 1) (records ++ tail) text) (sym after_is) moved, refl);
    }

store_all : (state : SessionState) (at : ℕ) (records : List (List (List ℕ))) (effects : List Effect) → AreAccepted (state.rows ++ numbered at effects) → WriteRows records effects
    → StoreAll state at records (with_rows state (state.rows ++ numbered at effects))
store_all state at [] [] accepted writes = store_none state at
store_all state at [] (effect ∷ effects) accepted writes = absurd writes
store_all state at (fields ∷ records) [] accepted writes = absurd writes
store_all state at (fields ∷ records) (effect ∷ effects) accepted (here, more) =
    let stored : StoredRow = record { at = at; effect = effect } in
    let answer = stored_answer state.rows fields effect here (seam state.rows (numbered (at + 1) effects) stored accepted) in
    let next = with_rows state (state.rows ++ stored ∷ []) in
    let after_is : state_after state at fields ≡ next = ap (λ (a : Answer). with_rows state (after_answer state.rows at a)) answer in
    let moved : (state.rows ++ stored ∷ []) ++ numbered (at + 1) effects ≡ state.rows ++ stored ∷ numbered (at + 1) effects = append_assoc state.rows (stored ∷ []) (numbered (at + 1) effects) in
    let rest = store_all next (at + 1) records effects (subst AreAccepted (sym moved) accepted) more in
    store_one state next (with_rows state (state.rows ++ stored ∷ numbered (at + 1) effects)) at fields effect records answer after_is
    (subst (λ (rs : List StoredRow). StoreAll next (at + 1) records (with_rows state rs)) moved rest)

-- the text of one record
one_to : (state : SessionState) (at : ℕ) (fields : List (List ℕ)) (text : List ℕ) → IsSessionText state at (fields ∷ []) text → Adds state at fields text
one_to state at fields text (first, rest, adds, none, whole) =
    let same : text ≡ first = whole ∙ ap (λ (t : List ℕ). first ++ t) none ∙ append-nil first in
    subst (λ (t : List ℕ). Adds state at fields t) (sym same) adds

one_back : (state : SessionState) (at : ℕ) (fields : List (List ℕ)) (text : List ℕ) → Adds state at fields text → IsSessionText state at (fields ∷ []) text
one_back state at fields text adds = (text, [], adds, refl, sym (append-nil text))

-- ---- a report of the plain rows

first_map : {X Y : Type 0} (p : Y → Bool) (f : X → Y) (xs : List X) → position_or_len p (map f xs) ≡ position_or_len (λ x. p (f x)) xs
first_map p f [] = refl
first_map p f (x ∷ xs) = rw (first_map p f xs) refl

position_map : {X Y : Type 0} (p : Y → Bool) (f : X → Y) (xs : List X) → position p (map f xs) ≡ position (λ x. p (f x)) xs
position_map p f xs = rw (first_map p f xs, length-map xs f) refl

same_place : (rows plain : List StoredRow) (name : List ℕ) → periods_of plain ≡ map opened (periods_of rows) → period_place plain name ≡ period_place rows name
same_place rows plain name same = ap (position (is_named name)) same ∙ position_map (is_named name) opened (periods_of rows)

-- ---- the same answers

-- a row that is stored is never answered by what the book says
not_said : (effect : Effect) (cause : Option Refused) (accepted : Accepted) → unless_refused (Stores effect) cause ≡ Says accepted → ⊥
not_said effect (Some cause) accepted is = cc is
not_said effect None accepted is = cc is

-- what the book says about a request, it says after the plain rows too
same_said : (rows plain : List StoredRow) (accepted : Accepted) (costs : List NamedCost) (request : Result Request FormFault) → ArePlain rows plain
    → answer_if rows costs request ≡ Says accepted → answer_if plain costs request ≡ Says accepted
same_said rows plain accepted costs (Ok asked.Blank) are is = is
same_said rows plain accepted costs (Ok (asked.Store effect)) are is = absurd (not_said effect (refusal_of rows effect) accepted is)
same_said rows plain accepted costs (Ok asked.Design) are is = is
same_said rows plain accepted costs (Ok (asked.Report name)) are is = ap (if_known answered.Report) (same_place rows plain name are.periods) ∙ is
same_said rows plain accepted costs (Ok (asked.History name)) are is = ap (if_known answered.History) (same_place rows plain name are.periods) ∙ is
same_said rows plain accepted costs (Ok (asked.Component component name)) are is =
    ap₂ (component_or_refused component) (ap (list_any (is_assay_over component name)) are.assays) (same_place rows plain name are.periods) ∙ is
same_said rows plain accepted costs (Ok (asked.Window first last)) are is =
    ap₂ (window_or_refused plain) (same_place rows plain first are.periods) (same_place rows plain last are.periods)
    ∙ same_window rows plain (period_place rows first) (period_place rows last) are ∙ is
same_said rows plain accepted costs (Ok asked.Advise) are is = ap (λ (ds : List Declared). unless_refused (Says answered.Advise) (refusal_of_costs ds costs)) are.declared ∙ is
same_said rows plain accepted costs (Err fault) are is = is

-- the first of accepted rows is among the plain rows
first_settled : (stored : StoredRow) (rest : List StoredRow) → IsAcceptable [] stored.effect → (effect : Effect) × (others : List Effect) × (plain_rows (stored ∷ rest) ≡ effect ∷ others)
first_settled stored rest accepted = by stored.effect refl accepted.no_cause
  where
    front : (effect : Effect) → stored.effect ≡ effect → settled effect ≡ Some effect → (one : Effect) × (others : List Effect) × (plain_rows (stored ∷ rest) ≡ one ∷ others)
    front effect same is = (
      effect,
      settled_rows rest ++ map booked (live_facts (facts_of (stored ∷ rest))),
      ap (λ (o : Option Effect). cons_option o (settled_rows rest) ++ map booked (live_facts (facts_of (stored ∷ rest)))) (ap settled same ∙ is),
    )

    by : (effect : Effect) → stored.effect ≡ effect → refusal_of [] stored.effect ≡ None → (one : Effect) × (others : List Effect) × (plain_rows (stored ∷ rest) ≡ one ∷ others)
    by (Declares declared) same none = front (Declares declared) same refl
    by (Opens name first last) same none = front (Opens name first last) same refl
    by (Assays assay) same none = front (Assays assay) same refl
    by (Books (Reading id stream day grams variance) late) same none = cc (sym (ap (refusal_of []) same) ∙ none)
    by (Books (Transfer id stream first last grams variance) late) same none = cc (sym (ap (refusal_of []) same) ∙ none)
    by (Books (Dip id tank day mm density variance) late) same none = cc (sym (ap (refusal_of []) same) ∙ none)
    by (Edits id edit reason) same none = cc (sym (ap (refusal_of []) same) ∙ none)
    by (Closes name) same none = cc (sym (ap (refusal_of []) same) ∙ none)

-- the session has the same version after the plain rows
same_version : (rows : List StoredRow) → AreAccepted rows → ArePlain rows (plain_stored rows) → version_at (plain_stored rows) ≡ version_at rows
same_version [] accepted are = refl
same_version (stored ∷ rest) accepted are =
    let (effect, others, is) = first_settled stored rest (accepted 0 stored refl) in
    ap (λ (effects : List Effect). version_at (numbered 1 effects)) is
    ∙ ap (λ (effects : List Effect). Some (version_of (declared_of (numbered 1 effects)))) (sym is)
    ∙ ap (λ (ds : List Declared). Some (version_of ds)) are.declared

-- a record about which the book says something asks for the same after the plain rows
plain_answer : (rows plain : List StoredRow) (accepted : Accepted) (fields : List (List ℕ)) → ArePlain rows plain → version_at plain ≡ version_at rows
    → answer_of rows fields ≡ Says accepted → answer_of plain fields ≡ Says accepted
plain_answer rows plain accepted fields are version is =
    ap (λ (v : Option Version). answer_if plain (named_costs fields) (request_in v fields)) version
    ∙ same_said rows plain accepted (named_costs fields) (request_in (version_at rows) fields) are is

-- the study of a graph depends only on the declarations
report_as : (state : SessionState) (rows other : List StoredRow) (before : List OutputRow) (names : Names) (period : List ℕ) (graph : ProcessGraph) (text : List ℕ) → declared_of rows ≡ declared_of other
    → IsReport (with_rows state rows) before names period graph text → IsReport (with_rows state other) before names period graph text
report_as state rows other before names period graph text same report = record {
  limits = report.limits;
  named = report.named;
  study = report.study;
  is_study = subst (λ (ds : List Declared). IsStudyOf graph state.options (declared_critical ds) report.study) same report.is_study;
  certified = report.certified;
  least = report.least;
  tested = report.tested;
  rows = report.rows;
}

-- so does the component graph, and the assays
balances_in_as : (state : SessionState) (rows other : List StoredRow) (given same_given : List (Option Grade)) (assembly answer : Result ProcessGraph Assembly) → declared_of rows ≡ declared_of other
    → given ≡ same_given → BalancesIn (with_rows state rows) given assembly answer → BalancesIn (with_rows state other) same_given assembly answer
balances_in_as state rows other given same_given (Ok graph) answer same grades of = record {
  limits = of.limits;
  study = of.study;
  is_study = subst (λ (ds : List Declared). IsStudyOf graph state.options (declared_critical ds) of.study) same of.is_study;
  last = of.last;
  is_last = of.is_last;
  is = of.is ∙ ap (λ (gs : List (Option Grade)). component_assembly (component_of graph of.last.streams gs)) grades;
}
balances_in_as state rows other given same_given (Err why) answer same grades of = of

-- and so does a report, if the names are the same
pub reports_by_as : (state : SessionState) (rows other : List StoredRow) (before : List OutputRow) (names same_names : Names) (period : List ℕ) (assembly : Result ProcessGraph Assembly) (text : List ℕ) → declared_of rows ≡ declared_of other
    → names ≡ same_names → ReportsBy (with_rows state rows) before names period assembly text → ReportsBy (with_rows state other) before same_names period assembly text
reports_by_as state rows other before names same_names period (Ok graph) text declared same report =
    subst (λ (n : Names). IsReport (with_rows state other) before n period graph text) same (report_as state rows other before names period graph text declared report)
reports_by_as state rows other before names same_names period (Err (Over j)) text declared same report =
    report ∙ ap (λ (ns : Names). text_in state.form (over_row period (name_at ns.streams j) ∷ [])) same
reports_by_as state rows other before names same_names period (Err NoMemory) text declared same report = absurd report

-- the grades of a component in a period follow from the assays and the names of the period's streams
same_grades : (rows other : List StoredRow) (component : List ℕ) (period same_days : Period) → assays_of rows ≡ assays_of other → same_days.name ≡ period.name
    → period_names rows (days_of period) ≡ period_names other (days_of same_days) → grades_of rows component period ≡ grades_of other component same_days
same_grades rows other component period same_days assays name names =
    let grades : List Assay → List ℕ → Names → List (Option Grade) =
    λ given named ns. map (λ (stream : List ℕ). option_map (λ (a : Assay). a.grade) (find (is_assay_of component named stream) given)) ns.streams in
    ap (λ (given : List Assay). grades given period.name (period_names rows (days_of period))) assays
    ∙ ap₂ (grades (assays_of other)) (sym name) names

reports_to : (state : SessionState) (plain : List StoredRow) (found : Option Period) (text : List ℕ) → ArePlain state.rows plain → HaveSameGraphs state.rows plain
    → Reports state found text → Reports (with_rows state plain) (option_map opened found) text
reports_to state plain None text are graphs report = absurd report
reports_to state plain (Some period) text are graphs report =
    let names = period_names state.rows (days_of period) in
    let same = period_names plain (days_of period) in
    subst (λ (a : Result ProcessGraph Assembly). ReportsBy (with_rows state plain) [] same period.name a text) (sym (graphs.days (days_of period)))
    (reports_by_as state state.rows plain [] names same period.name (assembly_of state.rows (days_of period)) text (sym are.declared) (sym (graphs.names (days_of period))) report)

reports_back : (state : SessionState) (plain : List StoredRow) (found : Option Period) (text : List ℕ) → ArePlain state.rows plain → HaveSameGraphs state.rows plain
    → Reports (with_rows state plain) (option_map opened found) text → Reports state found text
reports_back state plain None text are graphs report = absurd report
reports_back state plain (Some period) text are graphs report =
    let names = period_names plain (days_of period) in
    reports_by_as state plain state.rows [] names (period_names state.rows (days_of period)) period.name (assembly_of state.rows (days_of period)) text are.declared (graphs.names (days_of period))
    (subst (λ (a : Result ProcessGraph Assembly). ReportsBy (with_rows state plain) [] names period.name a text) (graphs.days (days_of period)) report)

balances_to : (state : SessionState) (plain : List StoredRow) (component : List ℕ) (found : Option Period) (text : List ℕ) → ArePlain state.rows plain → HaveSameGraphs state.rows plain
    → Balances state component found text → Balances (with_rows state plain) component (option_map opened found) text
balances_to state plain component None text are graphs balance = absurd balance
balances_to state plain component (Some period) text are graphs (answer, of, by) =
    let names = sym (graphs.names (days_of period)) in
    let grades = same_grades state.rows plain component period (opened period) (sym are.assays) refl names in
    let given = grades_of plain component (opened period) in
    let of_now = balances_in_as state state.rows plain (grades_of state.rows component period) given (assembly_of state.rows (days_of period)) answer (sym are.declared) grades of in (
      answer,
      subst (λ (a : Result ProcessGraph Assembly). BalancesIn (with_rows state plain) given a answer) (sym (graphs.days (days_of period))) of_now,
      reports_by_as state state.rows plain (component_row component period.name ∷ []) (period_names state.rows (days_of period)) (period_names plain (days_of period)) period.name answer text
          (sym are.declared) names by,
    )

balances_back : (state : SessionState) (plain : List StoredRow) (component : List ℕ) (found : Option Period) (text : List ℕ) → ArePlain state.rows plain → HaveSameGraphs state.rows plain
    → Balances (with_rows state plain) component (option_map opened found) text → Balances state component found text
balances_back state plain component None text are graphs balance = absurd balance
balances_back state plain component (Some period) text are graphs (answer, of, by) =
    let names = graphs.names (days_of period) in
    let grades = same_grades plain state.rows component (opened period) period are.assays refl names in
    let given = grades_of plain component (opened period) in
    let of_here = subst (λ (a : Result ProcessGraph Assembly). BalancesIn (with_rows state plain) given a answer) (graphs.days (days_of period)) of in (
      answer,
      balances_in_as state plain state.rows given (grades_of state.rows component period) (assembly_of state.rows (days_of period)) answer are.declared grades of_here,
      reports_by_as state plain state.rows (component_row component period.name ∷ []) (period_names plain (days_of period)) (period_names state.rows (days_of period)) period.name answer text
          are.declared names by,
    )

-- ---- a window after the plain rows

windows_to : (state : SessionState) (plain : List StoredRow) (found other : Option Period) (text : List ℕ) → ArePlain state.rows plain
    → Windows state found other text → Windows (with_rows state plain) (option_map opened found) (option_map opened other) text
windows_to state plain None other text are report = absurd report
windows_to state plain (Some first) None text are report = absurd report
windows_to state plain (Some first) (Some last) text are report =
    let rows = state.rows in
    let names = sym (ap window_names (window_same rows plain first last are)) in
    subst (λ (before : List OutputRow). ReportsBy (with_rows state plain) before (window_names (window_between plain (opened first) (opened last))) first.name (assembly_between plain (opened first) (opened last)) text)
    (sym (head_same rows plain first last are))
    (subst (λ (a : Result ProcessGraph Assembly). ReportsBy (with_rows state plain) (window_head rows first last) (window_names (window_between plain (opened first) (opened last))) first.name a text)
    (sym (assembly_same rows plain first last are))
    (reports_by_as state rows plain (window_head rows first last) (window_names (window_between rows first last)) (window_names (window_between plain (opened first) (opened last))) first.name
    (assembly_between rows first last) text (sym are.declared) names report))

windows_back : (state : SessionState) (plain : List StoredRow) (found other : Option Period) (text : List ℕ) → ArePlain state.rows plain
    → Windows (with_rows state plain) (option_map opened found) (option_map opened other) text → Windows state found other text
windows_back state plain None other text are report = absurd report
windows_back state plain (Some first) None text are report = absurd report
windows_back state plain (Some first) (Some last) text are report =
    let rows = state.rows in
    let names = ap window_names (window_same rows plain first last are) in
    reports_by_as state plain rows (window_head rows first last) (window_names (window_between plain (opened first) (opened last))) (window_names (window_between rows first last)) first.name
    (assembly_between rows first last) text are.declared names
    (subst (λ (a : Result ProcessGraph Assembly). ReportsBy (with_rows state plain) (window_head rows first last) (window_names (window_between plain (opened first) (opened last))) first.name a text)
    (assembly_same rows plain first last are)
    (subst (λ (before : List OutputRow). ReportsBy (with_rows state plain) before (window_names (window_between plain (opened first) (opened last))) first.name (assembly_between plain (opened first) (opened last)) text)
    (head_same rows plain first last are) report))

-- ---- a design and advice after the plain rows

design_as : (state : SessionState) (rows other : List StoredRow) (names : Names) (graph : ProcessGraph) (text : List ℕ) → IsDesign (with_rows state rows) names graph text → IsDesign (with_rows state other) names graph text
design_as state rows other names graph text design =
    record { limits = design.limits; named = design.named; classes = design.classes; are = design.are; rows = design.rows }

advice_as : (state : SessionState) (rows other : List StoredRow) (names : Names) (graph : ProcessGraph) (costs : List ℤ) (text : List ℕ) → IsAdviceText (with_rows state rows) names graph costs text
    → IsAdviceText (with_rows state other) names graph costs text
advice_as state rows other names graph costs text advice = record {
  limits = advice.limits;
  named = advice.named;
  each_costs = advice.each_costs;
  advice = advice.advice;
  is_advice = advice.is_advice;
  cheapest = advice.cheapest;
  rows = advice.rows;
}

found_plain : (rows plain : List StoredRow) (i : ℕ) → ArePlain rows plain → slice_get (periods_of plain) i ≡ option_map opened (slice_get (periods_of rows) i)
found_plain rows plain i are = ap (λ (ps : List Period). slice_get ps i) are.periods ∙ slice_get-map opened (periods_of rows) i

-- what the book says about a record adds the same text in both, if it does so for what is asked
moved : (state other : SessionState) (at after : ℕ) (accepted : Accepted) (fields : List (List ℕ)) (text : List ℕ) → answer_of state.rows fields ≡ Says accepted
    → answer_of other.rows fields ≡ Says accepted → (AddsAccepted state (named_costs fields) accepted text → AddsAccepted other (named_costs fields) accepted text)
    → Adds state at fields text → Adds other after fields text
moved state other at after accepted fields text here there so adds =
    subst (λ (a : Answer). AddsBy other after (named_costs fields) a text) (sym there) (so (subst (λ (a : Answer). AddsBy state at (named_costs fields) a text) here adds))

-- what a record adds after the rows and after the plain rows
pub record AddsAlike (state : SessionState) (plain : List StoredRow) (accepted : Accepted) (costs : List NamedCost) : Type 0 where
  pub to : (text : List ℕ) → AddsAccepted state costs accepted text → AddsAccepted (with_rows state plain) costs accepted text
  pub back : (text : List ℕ) → AddsAccepted (with_rows state plain) costs accepted text → AddsAccepted state costs accepted text

pub reports_alike : (state : SessionState) (plain : List StoredRow) (i : ℕ) (costs : List NamedCost) → ArePlain state.rows plain → HaveSameGraphs state.rows plain → AddsAlike state plain (Report i) costs
reports_alike state plain i costs are graphs = record {
  to = λ text here.
      subst (λ (found : Option Period). Reports (with_rows state plain) found text) (sym (found_plain state.rows plain i are))
      (reports_to state plain (slice_get (periods_of state.rows) i) text are graphs here);
  back = λ text there.
      reports_back state plain (slice_get (periods_of state.rows) i) text are graphs
      (subst (λ (found : Option Period). Reports (with_rows state plain) found text) (found_plain state.rows plain i are) there);
}

pub balances_alike : (state : SessionState) (plain : List StoredRow) (component : List ℕ) (i : ℕ) (costs : List NamedCost) → ArePlain state.rows plain → HaveSameGraphs state.rows plain
    → AddsAlike state plain (Component component i) costs
balances_alike state plain component i costs are graphs = record {
  to = λ text here.
      subst (λ (found : Option Period). Balances (with_rows state plain) component found text) (sym (found_plain state.rows plain i are))
      (balances_to state plain component (slice_get (periods_of state.rows) i) text are graphs here);
  back = λ text there.
      balances_back state plain component (slice_get (periods_of state.rows) i) text are graphs
      (subst (λ (found : Option Period). Balances (with_rows state plain) component found text) (found_plain state.rows plain i are) there);
}

pub windows_alike : (state : SessionState) (plain : List StoredRow) (first last : ℕ) (costs : List NamedCost) → ArePlain state.rows plain → AddsAlike state plain (Window first last) costs
windows_alike state plain first last costs are =
    let one = slice_get (periods_of state.rows) first in
    let other = slice_get (periods_of state.rows) last in
    let found : (slice_get (periods_of plain) first ≡ option_map opened one) × (slice_get (periods_of plain) last ≡ option_map opened other) =
    (found_plain state.rows plain first are, found_plain state.rows plain last are) in
    record {
      to = λ text here.
          subst (λ (o : Option Period). Windows (with_rows state plain) o (slice_get (periods_of plain) last) text) (sym found.0)
          (subst (λ (o : Option Period). Windows (with_rows state plain) (option_map opened one) o text) (sym found.1) (windows_to state plain one other text are here));
      back = λ text there.
          windows_back state plain one other text are
          (subst (λ (o : Option Period). Windows (with_rows state plain) (option_map opened one) o text) found.1
          (subst (λ (o : Option Period). Windows (with_rows state plain) o (slice_get (periods_of plain) last) text) found.0 there));
    }

pub design_alike : (state : SessionState) (plain : List StoredRow) (costs : List NamedCost) → ArePlain state.rows plain → HaveSameGraphs state.rows plain → AddsAlike state plain Design costs
design_alike state plain costs are graphs =
    let names = ap names_of are.declared in
    record {
      to = λ text here. subst₂ (λ (n : Names) (g : ProcessGraph). IsDesign (with_rows state plain) n g text) (sym names) (sym graphs.design) (design_as state state.rows plain _ _ text here);
      back = λ text there. subst₂ (λ (n : Names) (g : ProcessGraph). IsDesign state n g text) names graphs.design (design_as state plain state.rows _ _ text there);
    }

pub advice_alike : (state : SessionState) (plain : List StoredRow) (costs : List NamedCost) → ArePlain state.rows plain → HaveSameGraphs state.rows plain → AddsAlike state plain Advise costs
advice_alike state plain costs are graphs =
    let names = ap names_of are.declared in
    let costs_same = ap (λ (ds : List Declared). meter_costs ds costs) are.declared in
    record {
      to = λ text here.
          subst (λ (cs : List ℤ). IsAdviceText (with_rows state plain) (names_of (declared_of plain)) (design_graph plain) cs text) (sym costs_same)
          (subst₂ (λ (n : Names) (g : ProcessGraph). IsAdviceText (with_rows state plain) n g (meter_costs (declared_of state.rows) costs) text) (sym names) (sym graphs.design) (advice_as state state.rows plain _ _ _ text here));
      back = λ text there.
          subst (λ (cs : List ℤ). IsAdviceText state (names_of (declared_of state.rows)) (design_graph state.rows) cs text) costs_same
          (subst₂ (λ (n : Names) (g : ProcessGraph). IsAdviceText state n g (meter_costs (declared_of plain) costs) text) names graphs.design (advice_as state plain state.rows _ _ _ text there));
    }

-- ---- the edited file

-- what is asked has the same text after the edited file as after the rows
same_text : (state : SessionState) (plain : List StoredRow) (records : List (List (List ℕ))) (accepted : Accepted) (at : ℕ) (fields : List (List ℕ)) (text : List ℕ) → ArePlain state.rows plain
    → version_at plain ≡ version_at state.rows → StoreAll (begun state) 1 records (with_rows state plain) → AddsAlike state plain accepted (named_costs fields) → answer_of state.rows fields ≡ Says accepted
    → Adds state at fields text ↔ IsSessionText (begun state) 1 (records ++ fields ∷ []) text
same_text state plain records accepted at fields text are version all alike is =
    let end = with_rows state plain in
    let after = 1 + length records in
    let other = plain_answer state.rows plain accepted fields are version is in (
      λ adds. all.back (fields ∷ []) text (one_back end after fields text (moved state end at after accepted fields text is other (alike.to text) adds)),
      λ texts. moved end state after at accepted fields text other is (alike.back text) (one_to end after fields text (all.to (fields ∷ []) text texts)),
    )

pub edited_stands : PlainLaw → PlainGraphsLaw → EditedFileLaw
edited_stands plain_law graphs_law state records accepted writes =
    let plain = plain_stored state.rows in
    let are = plain_law state.rows accepted in
    let graphs = graphs_law state.rows accepted in
    let version = same_version state.rows accepted are in
    let all : StoreAll (begun state) 1 records (with_rows state plain) = store_all (begun state) 1 records (plain_rows state.rows) are.accepted writes in
    record {
      accepted = all.none;
      reports = λ at i row text is. same_text state plain records (Report i) at row text are version all (reports_alike state plain i (named_costs row) are graphs) is;
      balances = λ at component i row text is.
          same_text state plain records (Component component i) at row text are version all (balances_alike state plain component i (named_costs row) are graphs) is;
      windows = λ first last at row text is. same_text state plain records (Window first last) at row text are version all (windows_alike state plain first last (named_costs row) are) is;
      design = λ at row text is. same_text state plain records Design at row text are version all (design_alike state plain (named_costs row) are graphs) is;
      advice = λ at row text is. same_text state plain records Advise at row text are version all (advice_alike state plain (named_costs row) are graphs) is;
    }
