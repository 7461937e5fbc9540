-- What a session says doesn't depend on the numbers of its rows.
use Rattle.std.proofs.Common.{◌≡◌, ◌∙◌, ◌↔◌, ℕ, ◌+◌, Bool, List, [], ◌∷◌, ◌++◌, map, Option, Some, None, Result, Ok, Err, slice_get, position, refl, sym, ap, ap₂, subst, inl, inr}
use Rattle.std.specs.Prelude.{filter, filter_map, option_map}
use Rattle.std.specs.List.{cons_option, fold, list_any}
use Rattle.std.proofs.lemmas.Bool.{cases_Bool}
use Rattle.std.proofs.lemmas.List.{map-append}
use Rattle.std.proofs.lemmas.List.Folds.{fold-map}
use Rattle.pb_form.specs.declared.fault.FormFault.{FormFault}
use Rattle.pb_site.specs.declared.declared.Declared.{Declared}
use Rattle.pb_site.specs.declared.declared.Version.{Version}
use Rattle.pb_site.specs.Site.{version_of}
use Rattle.pb_facts.specs.declared.assays.Assay.{Assay}
use Rattle.pb_facts.specs.declared.facts.KeptFact.{KeptFact}
use Rattle.pb_facts.specs.Assays.{is_assay_over}
use Rattle.pb_facts.specs.Facts.{live_facts}
use Rattle.pb_kinds.specs.declared.costs.NamedCost.{NamedCost}
use Rattle.pb_kinds.specs.declared.rows.Effect.{Effect}
use Rattle.pb_kinds.specs.declared.rows.Request.{Request}
use Rattle.pb_kinds.specs.declared.rows.Request.TheVariants as asked
use Rattle.pb_kinds.specs.declared.rows.StoredRow.{StoredRow}
use Rattle.pb_kinds.specs.Costs.{named_costs}
use Rattle.pb_kinds.specs.Requests.{request_in}
use Rattle.pb_periods.specs.declared.period.Period.{Period}
use Rattle.pb_periods.specs.Apart.{is_named}
use Rattle.pb_periods.specs.Touching.{touches_in}
use Rattle.pb_periods.specs.Windows.{fault_between}
use Rattle.pb_book.specs.declared.answer.Accepted.{Accepted}
use Rattle.pb_book.specs.declared.answer.Accepted.TheVariants as answered
use Rattle.pb_book.specs.declared.answer.Refused.{Refused}
use Rattle.pb_book.specs.Accepted.{AreAccepted}
use Rattle.pb_book.specs.Answer.{Answer, Refuses, Says, Stores, after, after_answer, answer_if, answer_of, component_or_refused, if_known, unless_refused, window_or_refused}
use Rattle.pb_book.specs.Assays.{assay_by, assays_of}
use Rattle.pb_book.specs.Costs.{refusal_of_costs}
use Rattle.pb_book.specs.Edits.{edit_touches, history_of, is_edit}
use Rattle.pb_book.specs.Laws.{AcceptedLaw}
use Rattle.pb_book.specs.Plain.{PlainLaw, booked, numbered, plain_stored, settled, settled_rows}
use Rattle.pb_book.specs.Refusals.{refusal_behind, refusal_of}
use Rattle.pb_book.specs.Rows.{declaration_in, declared_of, facts_after, facts_of, period_place, periods_after, periods_of, version_at}
use Rattle.pb_book.specs.Windows.{cause_between, refusal_of_ends}
use Rattle.pb_period.specs.Laws.{PlainGraphsLaw}
use Rattle.pb_session.specs.Agreeing.{with_stored}
use Rattle.pb_session.specs.Renumbered.{AnswerAlike, HasNoNumbers, LeavesOut, LeftOutLaw, MayGo, RenumberedLaw, effects_of}
use Rattle.pb_session.specs.Session.{AddsAccepted, AddsBy, SessionState, state_after_all}
use Rattle.pb_session.proofs.EditedLemmas.{AddsAlike, advice_alike, balances_alike, design_alike, reports_alike, windows_alike}

abbrev Record : Type 0
Record = List (List ℕ)

-- ---- what depends on what rows do
given_map : {X Y Z : Type 0} (h : Y → Option Z) (f : X → Y) (xs : List X) → filter_map (λ x. h (f x)) xs ≡ filter_map h (map f xs)
given_map h f [] = refl
given_map h f (x ∷ xs) = ap (cons_option (h (f x))) (given_map h f xs)

kept_map : {X Y : Type 0} (p : Y → Bool) (f : X → Y) (xs : List X) → map f (filter (λ x. p (f x)) xs) ≡ filter p (map f xs)
kept_map p f [] = refl
kept_map p f (x ∷ xs) = elim (cases_Bool (p (f x))) [
  | inl passes ↦ rw passes (ap (λ (ys : List _). f x ∷ ys) (kept_map p f xs))
  | inr fails ↦ rw fails (kept_map p f xs)
]

abbrev effect_in : StoredRow → Effect
effect_in stored = stored.effect

-- rows that do the same declare the same, have the same facts, periods and assays, and the same plain rows
record HaveTheSame (rows others : List StoredRow) : Type 0 where
  declared : declared_of others ≡ declared_of rows
  facts : facts_of others ≡ facts_of rows
  periods : periods_of others ≡ periods_of rows
  assays : assays_of others ≡ assays_of rows
  version : version_at others ≡ version_at rows
  plain : plain_stored others ≡ plain_stored rows

version_from : List Effect → Option Version
version_from [] = None
version_from (effect ∷ effects) = Some (version_of (filter_map declaration_in (effect ∷ effects)))

version_is : (rows : List StoredRow) → version_at rows ≡ version_from (effects_of rows)
unfolding version_from
version_is [] = refl
version_is (stored ∷ rows) = ap (λ (ds : List Declared). Some (version_of ds)) (given_map declaration_in effect_in (stored ∷ rows))

have_same : (rows others : List StoredRow) → effects_of others ≡ effects_of rows → HaveTheSame rows others
have_same rows others same = record {
  declared = given_map declaration_in effect_in others ∙ ap (filter_map declaration_in) same ∙ sym (given_map declaration_in effect_in rows);
  facts = facts;
  periods = sym (fold-map periods_after effect_in [] others) ∙ ap (fold periods_after []) same ∙ fold-map periods_after effect_in [] rows;
  assays = given_map assay_by effect_in others ∙ ap (filter_map assay_by) same ∙ sym (given_map assay_by effect_in rows);
  version = version_is others ∙ ap version_from same ∙ sym (version_is rows);
  plain = ap₂ (λ (effects : List Effect) (kept : List KeptFact). numbered 1 (effects ++ map booked (live_facts kept))) settled_same facts;
}
  where
    facts : facts_of others ≡ facts_of rows
    facts = sym (fold-map facts_after effect_in [] others) ∙ ap (fold facts_after []) same ∙ fold-map facts_after effect_in [] rows

    settled_same : settled_rows others ≡ settled_rows rows
    settled_same = given_map settled effect_in others ∙ ap (filter_map settled) same ∙ sym (given_map settled effect_in rows)

-- ---- the same answers
place_same : (rows others : List StoredRow) (name : List ℕ) → HaveTheSame rows others → period_place others name ≡ period_place rows name
place_same rows others name have = ap (position (is_named name)) have.periods

refusal_same : (rows others : List StoredRow) (effect : Effect) → HaveTheSame rows others → refusal_of others effect ≡ refusal_of rows effect
refusal_same rows others effect have =
    λ i. refusal_behind (version_of (have.declared i)) (have.declared i) (have.facts i) (have.periods i) (have.assays i) effect

ends_same : (rows others : List StoredRow) (one other : Option Period) → HaveTheSame rows others → refusal_of_ends others one other ≡ refusal_of_ends rows one other
ends_same rows others None other have = refl
ends_same rows others (Some one) None have = refl
ends_same rows others (Some one) (Some other) have =
    ap₂ (λ (ds : List Declared) (ps : List Period). option_map cause_between (fault_between ds ps one other)) have.declared have.periods

window_same : (rows others : List StoredRow) (first last : Option ℕ) → HaveTheSame rows others → window_or_refused others first last ≡ window_or_refused rows first last
window_same rows others None last have = refl
window_same rows others (Some first) None have = refl
window_same rows others (Some first) (Some last) have =
    ap (unless_refused (Says (answered.Window first last)))
    (ap₂ (refusal_of_ends others) (ap (λ (ps : List Period). slice_get ps first) have.periods) (ap (λ (ps : List Period). slice_get ps last) have.periods)
    ∙ ends_same rows others (slice_get (periods_of rows) first) (slice_get (periods_of rows) last) have)

said_same : (rows others : List StoredRow) (costs : List NamedCost) (request : Result Request FormFault) → HaveTheSame rows others → answer_if others costs request ≡ answer_if rows costs request
said_same rows others costs (Ok asked.Blank) have = refl
said_same rows others costs (Ok (asked.Store effect)) have = ap (λ (o : Option Refused). unless_refused (Stores effect) o) (refusal_same rows others effect have)
said_same rows others costs (Ok asked.Design) have = refl
said_same rows others costs (Ok (asked.Report name)) have = ap (if_known answered.Report) (place_same rows others name have)
said_same rows others costs (Ok (asked.History name)) have = ap (if_known answered.History) (place_same rows others name have)
said_same rows others costs (Ok asked.Advise) have = ap (λ (ds : List Declared). unless_refused (Says answered.Advise) (refusal_of_costs ds costs)) have.declared
said_same rows others costs (Ok (asked.Window first last)) have =
    ap₂ (window_or_refused others) (place_same rows others first have) (place_same rows others last have)
    ∙ window_same rows others (period_place rows first) (period_place rows last) have
said_same rows others costs (Ok (asked.Component component name)) have =
    ap₂ (component_or_refused component) (ap (λ (given : List Assay). list_any (is_assay_over component name) given) have.assays) (place_same rows others name have)
said_same rows others costs (Err fault) have = refl

answer_same : (rows others : List StoredRow) (fields : Record) → HaveTheSame rows others → answer_of others fields ≡ answer_of rows fields
answer_same rows others fields have =
    ap (λ (v : Option Version). answer_if others (named_costs fields) (request_in v fields)) have.version
    ∙ said_same rows others (named_costs fields) (request_in (version_at rows) fields) have

-- ---- the same texts
-- both add what they add after their plain rows, which are the same
through : (state other : SessionState) (plain same : List StoredRow) (accepted : Accepted) (costs : List NamedCost) (text : List ℕ) → AddsAlike state plain accepted costs
    → AddsAlike other same accepted costs → with_stored state plain ≡ with_stored other same → AddsAccepted state costs accepted text ↔ AddsAccepted other costs accepted text
through state other plain same accepted costs text here there equal = (
  λ adds. there.back text (subst (λ (s : SessionState). AddsAccepted s costs accepted text) equal (here.to text adds)),
  λ adds. here.back text (subst (λ (s : SessionState). AddsAccepted s costs accepted text) (sym equal) (there.to text adds)),
)

text_same : PlainLaw → PlainGraphsLaw → (state : SessionState) (rows : List StoredRow) (at behind : ℕ) (costs : List NamedCost) (answer : Answer) (text : List ℕ) → AreAccepted state.rows
    → AreAccepted rows → HaveTheSame state.rows rows → HasNoNumbers answer → AddsBy state at costs answer text ↔ AddsBy (with_stored state rows) behind costs answer text
text_same plain_law graphs_law state rows at behind costs answer text accepted accepted_too have none = by answer none
  where
    other : SessionState
    other = with_stored state rows

    plain : List StoredRow
    plain = plain_stored state.rows

    equal : with_stored state plain ≡ with_stored other (plain_stored rows)
    equal = ap (with_stored state) (sym have.plain)

    by : (answer : Answer) → HasNoNumbers answer → AddsBy state at costs answer text ↔ AddsBy other behind costs answer text
    by (Refuses cause) none = absurd none
    by (Stores effect) none = ((λ is. is), (λ is. is))
    by (Says answered.Blank) none = ((λ is. is), (λ is. is))
    by (Says answered.Stored) none = ((λ is. is), (λ is. is))
    by (Says (answered.History i)) none = absurd none
    by (Says (answered.Report i)) none =
        through state other plain (plain_stored rows) (answered.Report i) costs text (reports_alike state plain i costs (plain_law state.rows accepted) (graphs_law state.rows accepted))
        (reports_alike other (plain_stored rows) i costs (plain_law rows accepted_too) (graphs_law rows accepted_too)) equal
    by (Says (answered.Component component i)) none =
        through state other plain (plain_stored rows) (answered.Component component i) costs text
        (balances_alike state plain component i costs (plain_law state.rows accepted) (graphs_law state.rows accepted))
        (balances_alike other (plain_stored rows) component i costs (plain_law rows accepted_too) (graphs_law rows accepted_too)) equal
    by (Says (answered.Window first last)) none =
        through state other plain (plain_stored rows) (answered.Window first last) costs text (windows_alike state plain first last costs (plain_law state.rows accepted))
        (windows_alike other (plain_stored rows) first last costs (plain_law rows accepted_too)) equal
    by (Says answered.Design) none =
        through state other plain (plain_stored rows) answered.Design costs text (design_alike state plain costs (plain_law state.rows accepted) (graphs_law state.rows accepted))
        (design_alike other (plain_stored rows) costs (plain_law rows accepted_too) (graphs_law rows accepted_too)) equal
    by (Says answered.Advise) none =
        through state other plain (plain_stored rows) answered.Advise costs text (advice_alike state plain costs (plain_law state.rows accepted) (graphs_law state.rows accepted))
        (advice_alike other (plain_stored rows) costs (plain_law rows accepted_too) (graphs_law rows accepted_too)) equal

-- ---- the same histories
abbrev touches_with : Period → List Declared → List KeptFact → Effect → Bool
touches_with period declared kept effect = edit_touches (touches_in (version_of declared) declared) kept effect period

abbrev edits_with : Period → List Declared → List KeptFact → List Effect → List Effect
edits_with period declared kept effects = filter (touches_with period declared kept) (filter is_edit effects)

history_from : (rows : List StoredRow) (period : Period) → effects_of (history_of rows period) ≡ edits_with period (declared_of rows) (facts_of rows) (effects_of rows)
history_from rows period =
    kept_map (touches_with period (declared_of rows) (facts_of rows)) effect_in (filter (λ (stored : StoredRow). is_edit stored.effect) rows)
    ∙ ap (filter (touches_with period (declared_of rows) (facts_of rows))) (kept_map is_edit effect_in rows)

history_same : (rows others : List StoredRow) (period : Period) → effects_of others ≡ effects_of rows → HaveTheSame rows others
    → effects_of (history_of others period) ≡ effects_of (history_of rows period)
history_same rows others period same have =
    history_from others period ∙ (λ i. edits_with period (have.declared i) (have.facts i) (same i)) ∙ sym (history_from rows period)

-- ---- sessions whose rows do the same
pub renumbered : PlainLaw → PlainGraphsLaw → RenumberedLaw
renumbered plain_law graphs_law state rows fields accepted accepted_too same =
    let have = have_same state.rows rows same in
    let answers = answer_same state.rows rows fields have in
    record {
      answers = answers;
      texts = λ at behind text none.
          subst (λ (a : Answer). AddsBy state at (named_costs fields) (answer_of state.rows fields) text ↔ AddsBy (with_stored state rows) behind (named_costs fields) a text) (sym answers)
          (text_same plain_law graphs_law state rows at behind (named_costs fields) (answer_of state.rows fields) text accepted accepted_too have none);
      histories = λ period. history_same state.rows rows period same have;
    }

-- ---- records left out
-- the rows after some records
abbrev rows_after : List StoredRow → ℕ → List Record → List StoredRow
rows_after rows at [] = rows
rows_after rows at (fields ∷ records) = rows_after (after rows at fields) (at + 1) records

state_is : (state : SessionState) (at : ℕ) (records : List Record) → state_after_all state at records ≡ with_stored state (rows_after state.rows at records)
state_is state at [] = refl
state_is state at (fields ∷ records) = state_is (with_stored state (after state.rows at fields)) (at + 1) records

accepted_after : AcceptedLaw → (rows : List StoredRow) (at : ℕ) (records : List Record) → AreAccepted rows → AreAccepted (rows_after rows at records)
accepted_after law rows at [] accepted = accepted
accepted_after law rows at (fields ∷ records) accepted = accepted_after law (after rows at fields) (at + 1) records (law.go_on rows at fields accepted)

-- a record that may go changes nothing
gone : (rows : List StoredRow) (at : ℕ) (answer : Answer) → MayGo answer → after_answer rows at answer ≡ rows
gone rows at (Refuses cause) may = refl
gone rows at (Stores effect) may = absurd may
gone rows at (Says accepted) may = refl

-- rows that do the same do the same after one more answer
one_more : (rows others : List StoredRow) (at behind : ℕ) (answer : Answer) → effects_of others ≡ effects_of rows
    → effects_of (after_answer others behind answer) ≡ effects_of (after_answer rows at answer)
one_more rows others at behind (Refuses cause) same = same
one_more rows others at behind (Says accepted) same = same
one_more rows others at behind (Stores effect) same =
    map-append effect_in others (let stored : StoredRow = record { at = behind; effect = effect } in stored ∷ [])
    ∙ ap (λ (effects : List Effect). effects ++ effect ∷ []) same
    ∙ sym (map-append effect_in rows (let stored : StoredRow = record { at = at; effect = effect } in stored ∷ []))

after_same : (rows others : List StoredRow) (at behind : ℕ) (fields : Record) → effects_of others ≡ effects_of rows
    → effects_of (after others behind fields) ≡ effects_of (after rows at fields)
after_same rows others at behind fields same =
    ap (λ (a : Answer). effects_of (after_answer others behind a)) (answer_same rows others fields (have_same rows others same))
    ∙ one_more rows others at behind (answer_of rows fields) same

left_out_same : (rows others : List StoredRow) (at behind : ℕ) (records fewer : List Record) → effects_of others ≡ effects_of rows → LeavesOut rows at records fewer
    → effects_of (rows_after others behind fewer) ≡ effects_of (rows_after rows at records)
left_out_same rows others at behind [] fewer same none = ap (λ (rs : List Record). effects_of (rows_after others behind rs)) none ∙ same
left_out_same rows others at behind (fields ∷ records) fewer same (inl (may, leaves)) =
    left_out_same rows others (at + 1) behind records fewer same leaves
    ∙ ap (λ (rs : List StoredRow). effects_of (rows_after rs (at + 1) records)) (sym (gone rows at (answer_of rows fields) may))
left_out_same rows others at behind (fields ∷ records) fewer same (inr (rest, is, leaves)) =
    ap (λ (rs : List Record). effects_of (rows_after others behind rs)) is
    ∙ left_out_same (after rows at fields) (after others behind fields) (at + 1) (behind + 1) records rest (after_same rows others at behind fields same) leaves

pub left_out : AcceptedLaw → PlainLaw → PlainGraphsLaw → LeftOutLaw
left_out accepted_law plain_law graphs_law state at behind records fewer fields accepted leaves =
    let whole = rows_after state.rows at records in
    let few = rows_after state.rows behind fewer in
    let alike = renumbered plain_law graphs_law (with_stored state whole) few fields (accepted_after accepted_law state.rows at records accepted)
    (accepted_after accepted_law state.rows behind fewer accepted) (left_out_same state.rows state.rows at behind records fewer refl leaves) in
    subst (λ (s : SessionState). AnswerAlike s (state_after_all state behind fewer) fields) (sym (state_is state at records))
    (subst (λ (s : SessionState). AnswerAlike (with_stored state whole) s fields) (sym (state_is state behind fewer)) alike)
