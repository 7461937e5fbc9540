-- What a session keeps, after a row and after a report.
use Rattle.std.specs.Prelude.{◌-◌, ◌+◌, ◌==◌, IsSome, IfOk, IfSome, find, option_map, slice_index_or}
use Rattle.std.specs.List.{AllByRecursion, list_any}
use Rattle.std.specs.Option.{option_and_then, option_map_or}
use Rattle.std.proofs.Common.{◌≡◌, ◌≢◌, ◌∙◌, ◌≤◌, ℕ, zero, suc, Bool, true, false, List, [], ◌∷◌, ◌++◌, length, Option, Some, None, Result, Ok, Err, slice_get, refl, sym, ap, ap₂, subst, arith, inl, inr, length-append}
use Rattle.std.proofs.lemmas.Bool.{cases_Bool, eqb-true}
use Rattle.std.proofs.lemmas.List.Sums.{fold_push}
use Rattle.std.proofs.lemmas.Option.{slice_get-get_or, slice_get-map}
use Rattle.pb_rows.specs.declared.name.Names.{Names}
use Rattle.pb_study.specs.declared.results.Critical.{Critical}
use Rattle.pb_study.specs.declared.results.Options.{Options}
use Rattle.pb_study.specs.declared.results.Stage.{Stage}
use Rattle.pb_study.specs.declared.results.Study.{Study}
use Rattle.pb_graph.specs.ProcessGraph.{ProcessGraph, IsProcessGraph}
use Rattle.pb_classify.specs.Classification.{IsClassification}
use Rattle.pb_stage.specs.Printed.{printed_classes}
use Rattle.pb_elim.specs.Study.{IsStudyOf}
use Rattle.pb_facts.specs.Facts.{NoRepeats}
use Rattle.pb_book.specs.declared.answer.Accepted.{Accepted}
use Rattle.pb_book.specs.declared.answer.Accepted.TheVariants.{Report, History, Advise, Component, Window}
use Rattle.pb_book.specs.declared.answer.NotAccepted.{NotAccepted}
use Rattle.pb_book.specs.declared.answer.Refused.{Refused}
use Rattle.pb_form.specs.declared.fault.FormFault.{FormFault}
use Rattle.pb_kinds.specs.declared.rows.Request.{Request}
use Rattle.pb_kinds.specs.declared.rows.Request.TheVariants as asked
use Rattle.pb_kinds.specs.declared.rows.Effect.{Effect}
use Rattle.pb_kinds.specs.declared.rows.Effect.TheVariants.{Declares, Opens, Books, Edits, Closes, Assays}
use Rattle.pb_periods.specs.declared.period.Period.{Period}
use Rattle.pb_kinds.specs.declared.costs.NamedCost.{NamedCost}
use Rattle.pb_kinds.specs.Costs.{named_costs}
use Rattle.pb_book.specs.Costs.{refusal_of_costs}
use Rattle.pb_book.specs.Answer.{Answer, Refuses, Says, Stores, after_answer, answer_if, answer_of, answer_to, component_or_refused, said_of, window_or_refused, if_known, unless_refused}
use Rattle.pb_book.specs.declared.answer.Accepted.TheVariants as answered
use Rattle.pb_periods.specs.Apart.{is_named}
use Rattle.pb_book.specs.Windows.{refusal_of_window}
use Rattle.pb_book.specs.Refusals.{refusal_of}
use Rattle.pb_kinds.specs.Requests.{request_in}
use Rattle.pb_kinds.specs.declared.rows.StoredRow.{StoredRow}
use Rattle.pb_periods.specs.Closing.{closed_if_named}
use Rattle.pb_book.specs.Rows.{declared_of, facts_of, open_period, period_place, periods_after, periods_of, version_at, with_row}
use Rattle.pb_period.specs.Days.{days_of}
use Rattle.pb_book.specs.Accepted.{AreAccepted}
use Rattle.pb_book.specs.TakenOut.{row_takes_out, takes_out, touched_at, touching_of}
use Rattle.pb_period.specs.Laws.{AreGraphNames, UntouchedLaw}
use Rattle.pb_period.specs.declared.graph.Assembly.{Assembly}
use Rattle.pb_period.specs.PeriodGraph.{assembly_of, period_graph, period_names}
use Rattle.pb_session.specs.declared.kept.KeptStudy.{KeptStudy}
use Rattle.pb_session.specs.declared.session.Reported.{Reported}
use Rattle.pb_session.specs.Criticals.{critical_of, declared_critical}
use Rattle.pb_session.specs.Kept.{Held, IsKeptAt, IsKeptBy, IsKeptOf, IsReportedStage, KeepsAccepted, KeepsBy, KeepsReport, KeepsReportOf, kept_behind, most_kept, reported_after, reported_behind, reported_by, reported_of, untouched, without}
use Rattle.pb_session.specs.Keeping.{IsKeeping, IsKeptStudy, IsMade, IsReportedAt, IsReportedBy, IsReportedOf, held_of, is_of, last_stage, left_by, others_than, place_in, saved_by, saved_stage, settled, settled_by, settled_stage, stage_beside, studies_behind, untouched_studies}
use Rattle.pb_session.specs.Session.{AreNamesOf, SessionState}
use Rattle.pb_session.proofs.NamedLemmas.{period_names_are}
use Rattle.pb_session.proofs.ReportLemmas.{at_found}
use Rattle.pb_session.proofs.KeptLemmas.{all_behind, behind_periods, contained_found, few_behind, few_filter, found_is, others_periods, periods_in, place_found, untouched_periods}
use Rattle.pb_facts.specs.Assays.{is_assay_over}
use Rattle.pb_book.specs.Assays.{assays_of}

-- accepted rows, no two facts of which have the same id
abbrev pub AreInOrder : List StoredRow → Type 0
AreInOrder rows = AreAccepted rows × NoRepeats (facts_of rows)

abbrev pub state_with : SessionState → List StoredRow → SessionState
state_with state rows = record { options = state.options; form = state.form; rows = rows }

-- ---- the study of a period that is found

pub kept_of : (state : SessionState) (found : Option Period) (period : Period) (graph : ProcessGraph) (study : Study) → found ≡ Some period
    → Ok graph ≡ assembly_of state.rows (days_of period) → IsKeptAt state found study → IsKeptOf state graph study
kept_of state found period graph study at is kept =
    let here : IsKeptBy state (assembly_of state.rows (days_of period)) study = subst (λ (o : Option Period). IsKeptAt state o study) at kept in
    subst (λ (a : Result ProcessGraph Assembly). IsKeptBy state a study) (sym is) here

pub kept_at : (state : SessionState) (found : Option Period) (period : Period) (graph : ProcessGraph) (study : Study) → found ≡ Some period
    → Ok graph ≡ assembly_of state.rows (days_of period) → IsKeptOf state graph study → IsKeptAt state found study
kept_at state found period graph study at is kept =
    let here : IsKeptBy state (assembly_of state.rows (days_of period)) study = subst (λ (a : Result ProcessGraph Assembly). IsKeptBy state a study) is kept in
    subst (λ (o : Option Period). IsKeptAt state o study) (sym at) here

-- the study at the place of a period's study is that of the period
pub kept_placed : (state : SessionState) (i : ℕ) (kept : List KeptStudy) (n : ℕ) (k : KeptStudy) → place_in i kept ≡ Some n → k ≡ slice_index_or kept n k
    → AllByRecursion (IsKeptStudy state) kept → IsKeptAt state (slice_get (periods_of state.rows) i) k.study
kept_placed state i kept n k at is all =
    let (lt, found) = place_found i kept n at in
    let here : slice_get kept n ≡ Some k = slice_get-get_or kept n k lt ∙ ap (λ (x : KeptStudy). Some x) (sym is) in
    let (own, of) = found_is (IsKeptStudy state) i kept k (found ∙ here) all in
    subst (λ (m : ℕ). IsKeptAt state (slice_get (periods_of state.rows) m) k.study) own of

-- a kept study is of a period that has a graph
pub record HasGraph (state : SessionState) (found : Option Period) (study : Study) : Type 0 where
  pub period : Period
  pub graph : ProcessGraph
  pub there : found ≡ Some period
  pub is : Ok graph ≡ assembly_of state.rows (days_of period)
  pub kept : IsKeptOf state graph study

pub has_graph : (state : SessionState) (found : Option Period) (study : Study) → IsKeptAt state found study → HasGraph state found study
has_graph state None study kept = absurd kept
has_graph state (Some period) study kept = by (assembly_of state.rows (days_of period)) refl kept
  where
    by : (a : Result ProcessGraph Assembly) → a ≡ assembly_of state.rows (days_of period) → IsKeptBy state a study → HasGraph state (Some period) study
    by (Ok graph) is kept = record { period = period; graph = graph; there = refl; is = is; kept = kept }
    by (Err why) is kept = absurd kept

-- the names of a period whose study is kept are those of its graph
pub kept_names : (state : SessionState) (i : ℕ) (book : List StoredRow) (names : Names) (study : Study) → book ≡ state.rows
    → IfSome (slice_get (periods_of book) i) (λ period. AreGraphNames (period_names book (days_of period)) (period_graph book (days_of period)))
    → IfSome (slice_get (periods_of book) i) (λ period. names ≡ period_names book (days_of period)) → (has : HasGraph state (slice_get (periods_of state.rows) i) study)
    → (names ≡ period_names state.rows (days_of has.period)) × AreNamesOf names has.graph
kept_names state i book names study is own named has =
    let named_now = subst (λ (rows : List StoredRow). IfSome (slice_get (periods_of rows) i) (λ period. names ≡ period_names rows (days_of period))) is named in
    let names_are = at_found (slice_get (periods_of state.rows) i) has.period (λ (p : Period). names ≡ period_names state.rows (days_of p)) has.there named_now in
    let own_now = subst (λ (rows : List StoredRow). IfSome (slice_get (periods_of rows) i) (λ period. AreGraphNames (period_names rows (days_of period)) (period_graph rows (days_of period)))) is own in
    let here = at_found (slice_get (periods_of state.rows) i) has.period (λ (p : Period). AreGraphNames (period_names state.rows (days_of p)) (period_graph state.rows (days_of p))) has.there own_now in
    let of = period_names_are state.rows (days_of has.period) has.graph here has.is in
    (names_are, subst (λ (n : Names). AreNamesOf n has.graph) (sym names_are) of)

-- the first stage of a study is that of its graph, and has its classes
pub first_classes : (graph : ProcessGraph) (options : Options) (critical : Critical) (study : Study) (stage : Stage) → IsStudyOf graph options critical study → slice_get study.stages 0 ≡ Some stage
    → (stage.graph ≡ graph) × IsClassification graph (printed_classes stage)
first_classes graph options critical study stage is at = let of = is.rounds.each 0 stage at in (of.reconciled.graph_is, of.reconciled.classes)

-- ---- after a stored row

front_at : {A : Type 0} (xs ys : List A) (i : ℕ) (x : A) → slice_get xs i ≡ Some x → slice_get (xs ++ ys) i ≡ Some x
front_at [] ys i x at = cc at
front_at (y ∷ xs) ys zero x at = at
front_at (y ∷ xs) ys (suc i) x at = front_at xs ys i x at

last_at : {A : Type 0} (xs : List A) (x : A) → slice_get (xs ++ x ∷ []) (length xs) ≡ Some x
last_at [] x = refl
last_at (y ∷ xs) x = last_at xs x

same_days : (name : List ℕ) (period : Period) → days_of (closed_if_named name period) ≡ days_of period
same_days name period = elim (cases_Bool (is_named name period)) [ inl own ↦ rw own refl | inr other ↦ rw other refl ]

-- a period keeps its place and its days
record Stays (periods : List Period) (i : ℕ) (before : Period) : Type 0 where
  period : Period
  there : slice_get periods i ≡ Some period
  days : days_of period ≡ days_of before

stays : (periods : List Period) (effect : Effect) (i : ℕ) (period : Period) → slice_get periods i ≡ Some period → Stays (periods_after periods effect) i period
stays periods (Opens name first last) i period at = record { period = period; there = front_at periods (open_period name first last ∷ []) i period at; days = refl }
stays periods (Closes name) i period at = record {
  period = closed_if_named name period;
  there = slice_get-map (closed_if_named name) periods i ∙ ap (option_map (closed_if_named name)) at;
  days = same_days name period;
}
stays periods (Declares declared) i period at = record { period = period; there = at; days = refl }
stays periods (Books fact late) i period at = record { period = period; there = at; days = refl }
stays periods (Edits id how reason) i period at = record { period = period; there = at; days = refl }
stays periods (Assays assay) i period at = record { period = period; there = at; days = refl }

-- what is kept for a graph stays kept if neither the options nor the critical values change
kept_still : (state other : SessionState) (graph : ProcessGraph) (study : Study) → other.options ≡ state.options → critical_of other.rows ≡ critical_of state.rows
    → IsKeptOf state graph study → IsKeptOf other graph study
kept_still state other graph study options critical kept = record {
  limits = kept.limits;
  is_study = rw (options, critical) kept.is_study;
  one_stage = kept.one_stage;
  certified = kept.certified;
  formed = kept.formed;
}

-- a study whose period the row doesn't touch stays that of its period
still : UntouchedLaw → (state : SessionState) (at : ℕ) (effect : Effect) (i : ℕ) (study : Study) → AreInOrder (with_row state.rows at effect) → touched_at (with_row state.rows at effect) i ≡ false
    → IsKeptAt state (slice_get (periods_of state.rows) i) study
    → IsKeptAt (state_with state (with_row state.rows at effect)) (slice_get (periods_of (with_row state.rows at effect)) i) study
still law state at effect i study accepted spared kept =
    let stored : StoredRow = record { at = at; effect = effect } in
    let rows = with_row state.rows at effect in
    let has = has_graph state (slice_get (periods_of state.rows) i) study kept in
    let periods : periods_of rows ≡ periods_after (periods_of state.rows) effect = fold_push (λ (ps : List Period) (s : StoredRow). periods_after ps s.effect) [] state.rows stored in
    let stay = stays (periods_of state.rows) effect i has.period has.there in
    let now = stay.period in
    let there_now : slice_get (periods_of rows) i ≡ Some now = ap (λ (ps : List Period). slice_get ps i) periods ∙ stay.there in
    let long = length-append state.rows (stored ∷ []) in
    let place : length rows - 1 ≡ length state.rows = omega (arith, long) in
    let last : slice_get rows (length rows - 1) ≡ Some stored = ap (slice_get rows) place ∙ last_at state.rows stored in
    let spared_now : takes_out (touching_of rows) (facts_of rows) effect now ≡ false = sym (ap₂ (λ (o : Option Period) (s : Option StoredRow). option_map_or (λ (p : Period). row_takes_out (touching_of rows) (facts_of rows) p s) o false) there_now last) ∙ spared in
    let leaves = law state.rows stored now accepted.0 accepted.1 spared_now in
    let graph_now : Ok has.graph ≡ assembly_of rows (days_of now) = has.is ∙ ap (assembly_of state.rows) (sym stay.days) ∙ sym leaves.graph in
    let critical : critical_of rows ≡ critical_of state.rows = ap declared_critical leaves.declared in
    kept_at (state_with state rows) (slice_get (periods_of rows) i) now has.graph study there_now graph_now (kept_still state (state_with state rows) has.graph study refl critical has.kept)

all_still : UntouchedLaw → (state : SessionState) (at : ℕ) (effect : Effect) (kept : List KeptStudy) → AreInOrder (with_row state.rows at effect) → AllByRecursion (IsKeptStudy state) kept
    → AllByRecursion (IsKeptStudy (state_with state (with_row state.rows at effect))) (untouched_studies (with_row state.rows at effect) kept)
all_still law state at effect [] accepted all = tt
all_still law state at effect (k ∷ kept) accepted (here, all) =
    let rest = all_still law state at effect kept accepted all in
    elim (cases_Bool (touched_at (with_row state.rows at effect) k.period)) [
      | inl gone ↦ rw gone rest
      | inr spared ↦ rw spared (still law state at effect k.period k.study accepted spared here, rest)
    ]

-- what an answer says, except that it stores a row
abbrev pub IsSaid : Answer → Type 0
IsSaid (Says Accepted.Stored) = ⊥
IsSaid answer = Unit {0}

left_same : (accepted : Accepted) (rows : List StoredRow) (kept : List KeptStudy) → IsSaid (Says accepted) → left_by accepted rows kept ≡ kept
left_same Accepted.Stored rows kept said = absurd said
left_same accepted rows kept said = refl

-- what the book says about a record that it accepts
abbrev pub said_ok : Accepted → Result Accepted NotAccepted
said_ok accepted = Ok accepted

-- and so does a record that isn't stored
pub left_other : (accepted : Accepted) (rows : List StoredRow) (kept : List KeptStudy) → accepted ≢ Accepted.Stored → left_by accepted rows kept ≡ kept
left_other Accepted.Stored rows kept other = absurd (other refl)
left_other accepted rows kept other = refl

same_accepted : (a b : Accepted) → said_ok a ≡ said_ok b → a ≡ b
same_accepted a b is = cc is

-- the remaining studies are those of their periods by the rows that are stored then
pub left_kept : UntouchedLaw → (state : SessionState) (new : List StoredRow) (at : ℕ) (answer : Answer) (accepted : Accepted) (kept : List KeptStudy) → said_ok accepted ≡ said_of answer
    → IsSaid answer → new ≡ after_answer state.rows at answer → (accepted ≡ Accepted.Stored → AreInOrder new) → AllByRecursion (IsKeptStudy state) kept
    → AllByRecursion (IsKeptStudy (state_with state new)) (left_by accepted new kept)
left_kept law state new at (Refuses cause) accepted kept is said new_is are all = cc is
left_kept law state new at (Stores effect) accepted kept is said new_is are all =
    let same = same_accepted accepted Accepted.Stored is in
    let here = all_still law state at effect kept (subst AreInOrder new_is (are same)) all in
    subst (λ (a : Accepted). AllByRecursion (IsKeptStudy (state_with state new)) (left_by a new kept)) (sym same)
    (subst (λ (rows : List StoredRow). AllByRecursion (IsKeptStudy (state_with state rows)) (untouched_studies rows kept)) (sym new_is) here)
left_kept law state new at (Says one) accepted kept is said new_is are all =
    let same = same_accepted accepted one is in
    let here : AllByRecursion (IsKeptStudy (state_with state new)) kept = subst (λ (rows : List StoredRow). AllByRecursion (IsKeptStudy (state_with state rows)) kept) (sym new_is) all in
    subst (λ (a : Accepted). AllByRecursion (IsKeptStudy (state_with state new)) (left_by a new kept)) (sym same)
    (subst (AllByRecursion (IsKeptStudy (state_with state new))) (sym (left_same one new kept said)) here)

pub left_few : (accepted : Accepted) (rows : List StoredRow) (kept : List KeptStudy) → length kept ≤ most_kept → length (left_by accepted rows kept) ≤ most_kept
left_few Accepted.Stored rows kept few = few_filter _ kept most_kept few
left_few accepted rows kept few = few

-- the periods that are kept after an accepted record are those that are kept after the record
pub keeps_by : (state : SessionState) (new : List StoredRow) (at : ℕ) (answer : Answer) (accepted : Accepted) (kept : List KeptStudy) (after : List ℕ) → said_ok accepted ≡ said_of answer
    → IsSaid answer → new ≡ after_answer state.rows at answer → KeepsAccepted (state_with state new) (periods_in (left_by accepted new kept)) accepted after
    → KeepsBy state (periods_in kept) at answer after
keeps_by state new at (Refuses cause) accepted kept after is said new_is keeps = cc is
keeps_by state new at (Stores effect) accepted kept after is said new_is keeps =
    let same = same_accepted accepted Accepted.Stored is in
    let here : after ≡ periods_in (untouched_studies new kept) = subst (λ (a : Accepted). KeepsAccepted (state_with state new) (periods_in (left_by a new kept)) a after) same keeps in
    here ∙ untouched_periods new kept ∙ ap (λ (rows : List StoredRow). untouched rows (periods_in kept)) new_is
keeps_by state new at (Says one) accepted kept after is said new_is keeps =
    let same = same_accepted accepted one is in
    let here : KeepsAccepted (state_with state new) (periods_in (left_by one new kept)) one after =
    subst (λ (a : Accepted). KeepsAccepted (state_with state new) (periods_in (left_by a new kept)) a after) same keeps in
    let left : KeepsAccepted (state_with state new) (periods_in kept) one after =
    subst (λ (ks : List KeptStudy). KeepsAccepted (state_with state new) (periods_in ks) one after) (left_same one new kept said) here in
    subst (λ (rows : List StoredRow). KeepsAccepted (state_with state rows) (periods_in kept) one after) new_is left

pub reported_still : (state : SessionState) (new : List StoredRow) (at : ℕ) (answer : Answer) (accepted : Accepted) (before : Option ProcessGraph) → said_ok accepted ≡ said_of answer
    → new ≡ after_answer state.rows at answer → reported_behind (state_with state new) before accepted ≡ reported_after state before answer
reported_still state new at (Refuses cause) accepted before is new_is = cc is
reported_still state new at (Stores effect) accepted before is new_is =
    ap (reported_behind (state_with state new) before) (same_accepted accepted Accepted.Stored is)
reported_still state new at (Says one) accepted before is new_is =
    ap (reported_behind (state_with state new) before) (same_accepted accepted one is) ∙ ap (λ (rows : List StoredRow). reported_behind (state_with state rows) before one) new_is

-- no answer says that a row was stored, except the one that stores it
said_stored : (effect : Effect) (cause : Option Refused) → IsSaid (unless_refused (Stores effect) cause)
said_stored effect (Some cause) = tt
said_stored effect None = tt

said_of_period : (says : ℕ → Accepted) → ((i : ℕ) → IsSaid (Says (says i))) → (found : Option ℕ) → IsSaid (if_known says found)
said_of_period says each (Some i) = each i
said_of_period says each None = tt

said_component : (component : List ℕ) (assayed : Bool) (found : Option ℕ) → IsSaid (component_or_refused component assayed found)
said_component component true (Some i) = tt
said_component component true None = tt
said_component component false found = tt

said_window_unless : (first last : ℕ) (cause : Option Refused) → IsSaid (unless_refused (Says (answered.Window first last)) cause)
said_window_unless first last (Some cause) = tt
said_window_unless first last None = tt

said_window : (rows : List StoredRow) (first last : Option ℕ) → IsSaid (window_or_refused rows first last)
said_window rows (Some first) (Some last) = said_window_unless first last (refusal_of_window rows first last)
said_window rows (Some first) None = tt
said_window rows None last = tt

said_advise : (cause : Option Refused) → IsSaid (unless_refused (Says answered.Advise) cause)
said_advise (Some cause) = tt
said_advise None = tt

said_to : (rows : List StoredRow) (costs : List NamedCost) (request : Request) → IsSaid (answer_to rows costs request)
said_to rows costs (asked.Store effect) = said_stored effect (refusal_of rows effect)
said_to rows costs (asked.Report name) = said_of_period answered.Report (λ i. tt) (period_place rows name)
said_to rows costs (asked.History name) = said_of_period answered.History (λ i. tt) (period_place rows name)
said_to rows costs (asked.Component component name) = said_component component (list_any (is_assay_over component name) (assays_of rows)) (period_place rows name)
said_to rows costs (asked.Window first last) = said_window rows (period_place rows first) (period_place rows last)
said_to rows costs asked.Advise = said_advise (refusal_of_costs (declared_of rows) costs)
said_to rows costs request = tt

said_if : (rows : List StoredRow) (costs : List NamedCost) (request : Result Request FormFault) → IsSaid (answer_if rows costs request)
said_if rows costs (Ok request) = said_to rows costs request
said_if rows costs (Err fault) = tt

pub said : (rows : List StoredRow) (fields : List (List ℕ)) → IsSaid (answer_of rows fields)
said rows fields = said_if rows (named_costs fields) (request_in (version_at rows) fields)

-- ---- after a report

-- what is kept of the study that was written
record Written (state : SessionState) (i : ℕ) (found : Option Period) (graph : ProcessGraph) (made : Option Study) (kept : List KeptStudy) : Type 0 where
  study : Study
  is_study : IsStudyOf graph state.options (critical_of state.rows) study
  settled_is : settled i made kept ≡ studies_behind i study kept
  stage_is : settled_stage i made kept ≡ stage_beside study
  of : length study.stages ≡ 1 → IsKeptAt state found study

written : (state : SessionState) (i : ℕ) (period : Period) (graph : ProcessGraph) (made : Option Study) (kept : List KeptStudy) (last : Option Stage)
    → slice_get (periods_of state.rows) i ≡ Some period → Ok graph ≡ assembly_of state.rows (days_of period) → IsProcessGraph graph → IsMade (held_of state kept last) i graph made
    → AllByRecursion (IsKeptStudy state) kept → Written state i (slice_get (periods_of state.rows) i) graph made kept
written state i period graph (Some study) kept last at is limits (is_study, certified, formed) all = record {
  study = study;
  is_study = is_study;
  settled_is = refl;
  stage_is = refl;
  of = λ one. kept_at state (slice_get (periods_of state.rows) i) period graph study at is
      (record { limits = limits; is_study = is_study; one_stage = one; certified = certified; formed = formed });
}
written state i period graph None kept last at is limits has all = by (find (is_of i) kept) refl (contained_found i kept has)
  where
    by : (o : Option KeptStudy) → find (is_of i) kept ≡ o → IsSome o → Written state i (slice_get (periods_of state.rows) i) graph None kept
    by None found some = cc some
    by (Some k) found some =
        let (own, here) = found_is (IsKeptStudy state) i kept k found all in
        let kept_here : IsKeptAt state (slice_get (periods_of state.rows) i) k.study = subst (λ (n : ℕ). IsKeptAt state (slice_get (periods_of state.rows) n) k.study) own here in
        let of = kept_of state (slice_get (periods_of state.rows) i) period graph k.study at is kept_here in
        record {
          study = k.study;
          is_study = of.is_study;
          settled_is = ap (λ (o : Option KeptStudy). settled_by i o kept) found;
          stage_is = ap (λ (o : Option KeptStudy). option_and_then (λ (x : KeptStudy). stage_beside x.study) o) found;
          of = λ one. kept_here;
        }

-- what holds for a list holds for its copy
pub such_copy : {T E : Type 0} (r : Result T E) (x : T) (P : T → Type 0) → P x → IfOk r (λ y. y ≡ x) → IfOk r P
such_copy (Ok y) x P holds is = subst P (sym is) holds
such_copy (Err e) x P holds is = tt

-- the stage that is reported last, after a study was written, is the first one of that study
stage_behind : (i : ℕ) (study : Study) (kept : List KeptStudy) (stage : Stage) → slice_get study.stages 0 ≡ Some stage
    → last_stage (studies_behind i study kept) (stage_beside study) ≡ Some stage
stage_behind i study kept stage at = elim (cases_Bool (length study.stages == 1)) [ inl one ↦ rw one at | inr more ↦ rw (more, at) refl ]

some_first : (stages : List Stage) (n : ℕ) → length stages ≡ n + 1 → IsSome (slice_get stages 0)
some_first [] n long = absurd (omega (arith, long))
some_first (stage ∷ stages) n long = refl

-- the first stage of a study, as it is reported
first_reported : (graph : ProcessGraph) (options : Options) (critical : Critical) (study : Study) (stage : Stage) → IsProcessGraph graph → IsStudyOf graph options critical study
    → slice_get study.stages 0 ≡ Some stage → IsReportedStage options stage
first_reported graph options critical study stage limits is at = record { graph = graph; limits = limits; critical = critical; is_stage = is.rounds.each 0 stage at }

-- a study has a first stage, which is that of its graph and has its classes
record Begun (graph : ProcessGraph) (study : Study) : Type 0 where
  stage : Stage
  at : slice_get study.stages 0 ≡ Some stage
  graph_is : stage.graph ≡ graph
  classes : IsClassification stage.graph (printed_classes stage)

begun : (graph : ProcessGraph) (options : Options) (critical : Critical) (study : Study) → IsStudyOf graph options critical study → Begun graph study
begun graph options critical study is = by (slice_get study.stages 0) refl (some_first study.stages (length study.taken) is.rounds.between)
  where
    by : (o : Option Stage) → slice_get study.stages 0 ≡ o → IsSome o → Begun graph study
    by None at some = cc some
    by (Some stage) at some =
        let of = first_classes graph options critical study stage is at in
        record { stage = stage; at = at; graph_is = of.0; classes = subst (λ (g : ProcessGraph). IsClassification g (printed_classes stage)) (sym of.0) of.1 }

-- the graph of a stage
abbrev pub graph_in : Option Stage → Option ProcessGraph
graph_in stage = option_map (λ (s : Stage). s.graph) stage

-- what a session holds after the report of a period
pub record Settles (state : SessionState) (i : ℕ) (found : Option Period) (kept : List KeptStudy) (last : Option Stage) (new : List KeptStudy) (new_last : Option Stage) : Type 0 where
  pub keeps : KeepsReportOf state i (periods_in kept) found (periods_in new)
  pub reports : graph_in (last_stage new new_last) ≡ reported_of state (graph_in (last_stage kept last)) found
  pub keeping : IsKeeping state new new_last

settles_graph : (state : SessionState) (i : ℕ) (period : Period) (graph : ProcessGraph) (reported : Reported) (kept : List KeptStudy) (last : Option Stage)
    → slice_get (periods_of state.rows) i ≡ Some period → Ok graph ≡ assembly_of state.rows (days_of period) → IsReportedOf (held_of state kept last) i graph reported
    → IsKeeping state kept last → Settles state i (Some period) kept last (settled i reported.made kept) (settled_stage i reported.made kept)
settles_graph state i period graph reported kept last at is of keeping =
    let before : Option ProcessGraph = graph_in (last_stage kept last) in
    let w = written state i period graph reported.made kept last at is of.limits of.made keeping.studies in
    let periods : periods_in (settled i reported.made kept) ≡ kept_behind i w.study (periods_in kept) = ap periods_in w.settled_is ∙ behind_periods i w.study kept in
    let keeps : KeepsReport state i (periods_in kept) (Ok graph) (periods_in (settled i reported.made kept)) = (w.study, w.is_study, periods) in
    let first = begun graph state.options (critical_of state.rows) w.study w.is_study in
    let reported_is = first_reported graph state.options (critical_of state.rows) w.study first.stage of.limits w.is_study first.at in
    let stage : last_stage (settled i reported.made kept) (settled_stage i reported.made kept) ≡ Some first.stage =
    ap₂ last_stage w.settled_is w.stage_is ∙ stage_behind i w.study kept first.stage first.at in
    record {
      keeps = subst (λ (a : Result ProcessGraph Assembly). KeepsReport state i (periods_in kept) a (periods_in (settled i reported.made kept))) is keeps;
      reports = ap graph_in stage ∙ ap (λ (g : ProcessGraph). Some g) first.graph_is ∙ ap (reported_by before) is;
      keeping = record {
        options = keeping.options;
        studies = subst (AllByRecursion (IsKeptStudy state)) (sym w.settled_is) (all_behind (IsKeptStudy state) i w.study kept w.of keeping.studies);
        few = subst (λ (ks : List KeptStudy). length ks ≤ most_kept) (sym w.settled_is) (few_behind i w.study kept keeping.few);
        classes = subst (λ (o : Option Stage). IfSome o (λ (s : Stage). IsClassification s.graph (printed_classes s))) (sym stage) first.classes;
        last_is = subst (λ (o : Option Stage). IfSome o (IsReportedStage state.options)) (sym stage) reported_is;
      };
    }

settles_by : (state : SessionState) (i : ℕ) (period : Period) (assembly : Result ProcessGraph Assembly) (reported : Reported) (kept : List KeptStudy) (last : Option Stage)
    → slice_get (periods_of state.rows) i ≡ Some period → assembly ≡ assembly_of state.rows (days_of period) → IsReportedBy (held_of state kept last) i assembly (Some reported)
    → IsKeeping state kept last → Settles state i (Some period) kept last (settled i reported.made kept) (settled_stage i reported.made kept)
settles_by state i period (Ok graph) reported kept last at is of keeping = settles_graph state i period graph reported kept last at is of keeping
settles_by state i period (Err why) reported kept last at is of keeping = absurd of

settles_at : (state : SessionState) (i : ℕ) (found : Option Period) (reported : Reported) (kept : List KeptStudy) (last : Option Stage) → slice_get (periods_of state.rows) i ≡ found
    → IsReportedAt (held_of state kept last) i found (Some reported) → IsKeeping state kept last
    → Settles state i found kept last (settled i reported.made kept) (settled_stage i reported.made kept)
settles_at state i None reported kept last at leaves keeping = absurd leaves
settles_at state i (Some period) reported kept last at leaves keeping =
    settles_by state i period (assembly_of state.rows (days_of period)) reported kept last at refl leaves keeping

pub settles : (state : SessionState) (i : ℕ) (reported : Reported) (kept : List KeptStudy) (last : Option Stage)
    → IsReportedAt (held_of state kept last) i (slice_get (periods_of state.rows) i) (Some reported) → IsKeeping state kept last
    → Settles state i (slice_get (periods_of state.rows) i) kept last (settled i reported.made kept) (settled_stage i reported.made kept)
settles state i reported kept last leaves keeping = settles_at state i (slice_get (periods_of state.rows) i) reported kept last refl leaves keeping

-- what a report leaves, by the graph of its period
pub reported_at : (held : Held) (i : ℕ) (found : Option Period) (period : Period) (graph : ProcessGraph) (reported : Reported) → found ≡ Some period
    → Ok graph ≡ assembly_of held.state.rows (days_of period) → IsReportedOf held i graph reported → IsReportedAt held i found (Some reported)
reported_at held i found period graph reported at is of =
    let some : Option Reported = Some reported in
    let here : IsReportedBy held i (assembly_of held.state.rows (days_of period)) some = subst (λ (a : Result ProcessGraph Assembly). IsReportedBy held i a some) is of in
    subst (λ (o : Option Period). IsReportedAt held i o some) (sym at) here

pub passed_at : (held : Held) (i : ℕ) (found : Option Period) (period : Period) (why : Assembly) → found ≡ Some period → Err why ≡ assembly_of held.state.rows (days_of period)
    → IsReportedAt held i found None
passed_at held i found period why at is =
    let none : Option Reported = None in
    let here : IsReportedBy held i (assembly_of held.state.rows (days_of period)) none = subst (λ (a : Result ProcessGraph Assembly). IsReportedBy held i a none) is tt in
    subst (λ (o : Option Period). IsReportedAt held i o none) (sym at) here

-- after the row that names a stream over the limits no study of the period is kept, so all studies stay
other_study : (state : SessionState) (i : ℕ) (found : Option Period) (period : Period) (why : Assembly) (k : KeptStudy) → found ≡ Some period → Err why ≡ assembly_of state.rows (days_of period)
    → slice_get (periods_of state.rows) i ≡ found → IsKeptStudy state k → is_of i k ≡ false
other_study state i found period why k at is there kept = elim (cases_Bool (is_of i k)) [
  | inl own ↦
      let own_is : k.period ≡ i = eqb-true k.period i own in
      let here : IsKeptAt state found k.study = subst (λ (o : Option Period). IsKeptAt state o k.study) (ap (slice_get (periods_of state.rows)) own_is ∙ there) kept in
      let has : IsKeptAt state (Some period) k.study = subst (λ (o : Option Period). IsKeptAt state o k.study) at here in
      absurd (subst (λ (a : Result ProcessGraph Assembly). IsKeptBy state a k.study) (sym is) has)
  | inr other ↦ other
]

all_others : (state : SessionState) (i : ℕ) (found : Option Period) (period : Period) (why : Assembly) (kept : List KeptStudy) → found ≡ Some period → Err why ≡ assembly_of state.rows (days_of period)
    → slice_get (periods_of state.rows) i ≡ found → AllByRecursion (IsKeptStudy state) kept → others_than i kept ≡ kept
all_others state i found period why [] at is there all = refl
all_others state i found period why (k ∷ kept) at is there (here, all) =
    rw (other_study state i found period why k at is there here) (ap (λ (ks : List KeptStudy). k ∷ ks) (all_others state i found period why kept at is there all))

passes_by : (state : SessionState) (i : ℕ) (period : Period) (assembly : Result ProcessGraph Assembly) (kept : List KeptStudy) (last : Option Stage) → slice_get (periods_of state.rows) i ≡ Some period
    → assembly ≡ assembly_of state.rows (days_of period) → IsReportedBy (held_of state kept last) i assembly None → IsKeeping state kept last
    → Settles state i (Some period) kept last kept last
passes_by state i period (Ok graph) kept last at is of keeping = absurd of
passes_by state i period (Err why) kept last at is of keeping =
    let all : others_than i kept ≡ kept = all_others state i (Some period) period why kept refl is at keeping.studies in
    let periods : periods_in kept ≡ without i (periods_in kept) = sym (ap periods_in all) ∙ others_periods i kept in
    record {
      keeps = subst (λ (a : Result ProcessGraph Assembly). KeepsReport state i (periods_in kept) a (periods_in kept)) is periods;
      reports = ap (reported_by (graph_in (last_stage kept last))) is;
      keeping = keeping;
    }

passes_at : (state : SessionState) (i : ℕ) (found : Option Period) (kept : List KeptStudy) (last : Option Stage) → slice_get (periods_of state.rows) i ≡ found
    → IsReportedAt (held_of state kept last) i found None → IsKeeping state kept last → Settles state i found kept last kept last
passes_at state i None kept last at leaves keeping = absurd leaves
passes_at state i (Some period) kept last at leaves keeping = passes_by state i period (assembly_of state.rows (days_of period)) kept last at refl leaves keeping

pub passes_over : (state : SessionState) (i : ℕ) (kept : List KeptStudy) (last : Option Stage) → IsReportedAt (held_of state kept last) i (slice_get (periods_of state.rows) i) None
    → IsKeeping state kept last → Settles state i (slice_get (periods_of state.rows) i) kept last kept last
passes_over state i kept last leaves keeping = passes_at state i (slice_get (periods_of state.rows) i) kept last refl leaves keeping

-- ---- the stage that was reported last, after a stored row

-- it stays, though its study may be dropped
untouched_stage : (state : SessionState) (rows : List StoredRow) (kept : List KeptStudy) (last : Option Stage) → AllByRecursion (IsKeptStudy state) kept
    → last_stage (untouched_studies rows kept) (saved_stage (λ (k : KeptStudy). touched_at rows k.period) kept last) ≡ last_stage kept last
untouched_stage state rows kept (Some stage) all = refl
untouched_stage state rows [] None all = refl
untouched_stage state rows (k ∷ kept) None (here, all) = elim (cases_Bool (touched_at rows k.period)) [
  | inl gone ↦
      let has = has_graph state (slice_get (periods_of state.rows) k.period) k.study here in
      rw gone (by (slice_get k.study.stages 0) (some_first k.study.stages 0 has.kept.one_stage))
  | inr spared ↦ rw spared refl
]
  where
    by : (o : Option Stage) → IsSome o → last_stage (untouched_studies rows kept) o ≡ o
    by (Some stage) some = refl
    by None some = cc some

pub left_stage : (state : SessionState) (accepted : Accepted) (rows : List StoredRow) (kept : List KeptStudy) (last : Option Stage) → AllByRecursion (IsKeptStudy state) kept
    → last_stage (left_by accepted rows kept) (saved_by accepted rows kept last) ≡ last_stage kept last
left_stage state Accepted.Stored rows kept last all = untouched_stage state rows kept last all
left_stage state accepted rows kept last all = refl

pub saved_other : (accepted : Accepted) (rows : List StoredRow) (kept : List KeptStudy) (last : Option Stage) → accepted ≢ Accepted.Stored → saved_by accepted rows kept last ≡ last
saved_other Accepted.Stored rows kept last other = absurd (other refl)
saved_other accepted rows kept last other = refl
