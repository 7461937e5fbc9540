-- The names of stored rows are names.
use Rattle.std.specs.Prelude.{◌&&◌, if◌then◌else◌, filter_map, find, All, IfSome}
use Rattle.std.specs.Cmp.Lexicographic.{bytes_decides}
use Rattle.std.specs.List.{cons_option, fold, list_all, list_any}
use Rattle.std.specs.Option.{option_map}
use Rattle.std.proofs.Common.{◌≡◌, ℕ, List, [], ◌∷◌, map, suc, slice_get, Bool, true, false, Option, Some, None, Result, Ok, Err, refl, ap, subst, inl, inr}
use Rattle.std.proofs.lemmas.Bool.{and_parts, cases_Bool}
use Rattle.std.proofs.lemmas.List.Elements.{All-cons, All-head, All-map, All-nil, All-push, All-tail, All-weaker}
use Rattle.pb_facts.specs.Grade.{IsGrade}
use Rattle.pb_rows.specs.Name.{is_name, same_name}
use Rattle.pb_form.specs.declared.fault.FormFault.{FormFault}
use Rattle.pb_site.specs.declared.declared.Arc.{Arc}
use Rattle.pb_site.specs.declared.declared.Declared.{Declared}
use Rattle.pb_site.specs.declared.declared.Declared.TheVariants.{Version2, CritGlobal, CritNodal, CritMeasure}
use Rattle.pb_site.specs.Row.{IsDeclaredInRange, arc_in, node_name}
use Rattle.pb_site.specs.Site.{boundary_names, node_names}
use Rattle.pb_facts.specs.declared.assays.Assay.{Assay}
use Rattle.pb_kinds.specs.declared.rows.Effect.{Effect}
use Rattle.pb_kinds.specs.declared.rows.Effect.TheVariants.{Declares, Opens, Books, Edits, Closes, Assays}
use Rattle.pb_kinds.specs.declared.rows.Request.{Request}
use Rattle.pb_kinds.specs.declared.rows.Request.TheVariants as asked
use Rattle.pb_kinds.specs.Effects.{declared_names, effect_names}
use Rattle.pb_kinds.specs.Costs.{named_costs}
use Rattle.pb_kinds.specs.Laws.{StoredLaw}
use Rattle.pb_kinds.specs.Ranges.{IsEffectInRange}
use Rattle.pb_kinds.specs.Requests.{request_in}
use Rattle.pb_book.specs.declared.answer.Accepted.TheVariants.{Component}
use Rattle.pb_periods.specs.declared.period.Period.{Period}
use Rattle.pb_kinds.specs.declared.rows.StoredRow.{StoredRow}
use Rattle.pb_book.specs.Answer.{Answer, Says, after, after_answer, answer_if, answer_of, answer_to, Stores}
use Rattle.pb_periods.specs.Apart.{is_named}
use Rattle.pb_book.specs.Assays.{assay_by, assays_of}
use Rattle.pb_facts.specs.Assays.{is_assay_of, is_assay_over}
use Rattle.pb_book.specs.Named.{AreNamed, GradesLaw, HaveWellFormedNames, NamedLaw, RangesLaw}
use Rattle.pb_periods.specs.Closing.{closed, closed_if_named}
use Rattle.pb_book.specs.Rows.{open_period, declaration_in, declared_of, periods_after, version_at}
use Rattle.pb_book.proofs.AnswerLemmas.{AnswersTo, answers_to}

-- ---- one more record

abbrev IsNamedRow : StoredRow → Type 0
IsNamedRow stored = list_all is_name (effect_names stored.effect) ≡ true

after_named : StoredLaw → (rows : List StoredRow) (at : ℕ) (fields : List (List ℕ)) → HaveWellFormedNames rows → HaveWellFormedNames (after rows at fields)
after_named law rows at fields named = by (request_in (version_at rows) fields) (λ effect is. law.named (version_at rows) fields effect is)
  where
    after_answered : (request : Request) → ((effect : Effect) → request ≡ asked.Store effect → list_all is_name (effect_names effect) ≡ true)
        → (answer : Answer) → AnswersTo rows request answer → HaveWellFormedNames (after_answer rows at answer)
    after_answered request names (Stores effect) (is, none) = All-push IsNamedRow rows (record { at = at; effect = effect }) named (names effect is)
    after_answered request names answer is = named

    by : (request : Result Request FormFault) → ((effect : Effect) → request ≡ Ok (asked.Store effect) → list_all is_name (effect_names effect) ≡ true)
        → HaveWellFormedNames (after_answer rows at (answer_if rows (named_costs fields) request))
    by (Err fault) is = named
    by (Ok request) is =
        after_answered request (λ effect same. is effect (ap (λ (r : Request). let asks : Result Request FormFault = Ok r in asks) same)) (answer_to rows (named_costs fields) request)
        (answers_to rows (named_costs fields) request)

-- ---- what follows

abbrev is_declared_named : Declared → Bool
is_declared_named declared = list_all is_name (declared_names declared)

both : (a b : Bool) → a ≡ true → b ≡ true → (a && b) ≡ true
both true true x y = refl
both true false x y = y
both false b x y = x

-- the first of some names
first_named : (name : List ℕ) (rest : List (List ℕ)) → list_all is_name (name ∷ rest) ≡ true → is_name name ≡ true
first_named name rest is = (and_parts (is_name name) (list_all is_name rest) is).0

-- the declarations among named rows
declared_named : (rows : List StoredRow) → HaveWellFormedNames rows → list_all is_declared_named (declared_of rows) ≡ true
declared_named [] named = refl
declared_named (stored ∷ rows) named =
    by stored.effect (All-head IsNamedRow stored rows named) (declared_named rows (All-tail IsNamedRow stored rows named))
  where
    by : (effect : Effect) → list_all is_name (effect_names effect) ≡ true → list_all is_declared_named (declared_of rows) ≡ true
        → list_all is_declared_named (cons_option (declaration_in effect) (declared_of rows)) ≡ true
    by (Declares declared) is rest = both (is_declared_named declared) _ is rest
    by (Opens name first last) is rest = rest
    by (Books fact late) is rest = rest
    by (Edits id edit reason) is rest = rest
    by (Closes name) is rest = rest
    by (Assays assay) is rest = rest

-- the names of their nodes
nodes_named : (declared : List Declared) → list_all is_declared_named declared ≡ true → list_all is_name (filter_map node_name declared) ≡ true
nodes_named [] all = refl
nodes_named (d ∷ declared) all =
    let parts = and_parts (is_declared_named d) (list_all is_declared_named declared) all in
    by d parts.0 (nodes_named declared parts.1)
  where
    by : (d : Declared) → is_declared_named d ≡ true → list_all is_name (filter_map node_name declared) ≡ true
        → list_all is_name (cons_option (node_name d) (filter_map node_name declared)) ≡ true
    by Version2 is rest = rest
    by (Declared.Unit name) is rest = both (is_name name) _ (first_named name [] is) rest
    by (Declared.Boundary name) is rest = rest
    by (Declared.Tank name base service) is rest = both (is_name name) _ (first_named name [] is) rest
    by (Declared.Strap tank mm ml) is rest = rest
    by (Declared.Stream name from to kind base service) is rest = rest
    by (CritGlobal dof value) is rest = rest
    by (CritNodal value) is rest = rest
    by (CritMeasure value) is rest = rest

-- and of their arcs
arcs_named : (boundaries nodes : List (List ℕ)) (declared : List Declared) → list_all is_declared_named declared ≡ true
    → list_all is_name (map (λ (arc : Arc). arc.name) (filter_map (arc_in boundaries nodes) declared)) ≡ true
arcs_named boundaries nodes [] all = refl
arcs_named boundaries nodes (d ∷ declared) all =
    let parts = and_parts (is_declared_named d) (list_all is_declared_named declared) all in
    by d parts.0 (arcs_named boundaries nodes declared parts.1)
  where
    by : (d : Declared) → is_declared_named d ≡ true → list_all is_name (map (λ (arc : Arc). arc.name) (filter_map (arc_in boundaries nodes) declared)) ≡ true
        → list_all is_name (map (λ (arc : Arc). arc.name) (cons_option (arc_in boundaries nodes d) (filter_map (arc_in boundaries nodes) declared))) ≡ true
    by Version2 is rest = rest
    by (Declared.Unit name) is rest = rest
    by (Declared.Boundary name) is rest = rest
    by (Declared.Tank name base service) is rest = both (is_name name) _ (first_named name [] is) rest
    by (Declared.Strap tank mm ml) is rest = rest
    by (Declared.Stream name from to kind base service) is rest = both (is_name name) _ (first_named name (from ∷ to ∷ []) is) rest
    by (CritGlobal dof value) is rest = rest
    by (CritNodal value) is rest = rest
    by (CritMeasure value) is rest = rest

abbrev IsNamedPeriod : Period → Type 0
IsNamedPeriod period = is_name period.name ≡ true

-- a period keeps its name when it is closed
closed_named : (name : List ℕ) (period : Period) → IsNamedPeriod period → IsNamedPeriod (closed_if_named name period)
closed_named name period is = by (is_named name period)
  where
    by : (b : Bool) → IsNamedPeriod (if b then closed period else period)
    by true = is
    by false = is

-- the periods after one more row
periods_more : (periods : List Period) (effect : Effect) → All IsNamedPeriod periods → list_all is_name (effect_names effect) ≡ true → All IsNamedPeriod (periods_after periods effect)
periods_more periods (Declares declared) all is = all
periods_more periods (Opens name first last) all is = All-push IsNamedPeriod periods (open_period name first last) all (first_named name [] is)
periods_more periods (Books fact late) all is = all
periods_more periods (Edits id edit reason) all is = all
periods_more periods (Closes name) all is =
    All-map IsNamedPeriod (closed_if_named name) periods
    (All-weaker IsNamedPeriod (λ (period : Period). IsNamedPeriod (closed_if_named name period)) (closed_named name) periods all)
periods_more periods (Assays assay) all is = all

periods_named : (rows : List StoredRow) (periods : List Period) → All IsNamedPeriod periods → HaveWellFormedNames rows
    → All IsNamedPeriod (fold (λ (so_far : List Period) (stored : StoredRow). periods_after so_far stored.effect) periods rows)
periods_named [] periods all named = all
periods_named (stored ∷ rows) periods all named =
    periods_named rows (periods_after periods stored.effect) (periods_more periods stored.effect all (All-head IsNamedRow stored rows named)) (All-tail IsNamedRow stored rows named)

all_named : (rows : List StoredRow) → HaveWellFormedNames rows → AreNamed rows
all_named rows named =
    let declared = declared_named rows named in
    record {
      nodes = nodes_named (declared_of rows) declared;
      streams = arcs_named (boundary_names (declared_of rows)) (node_names (declared_of rows)) (declared_of rows) declared;
      periods = periods_named rows [] (All-nil IsNamedPeriod) named;
    }

-- the names of the components for which there are assays
abbrev IsNamedAssay : Assay → Type 0
IsNamedAssay assay = is_name assay.component ≡ true

assays_named : (rows : List StoredRow) → HaveWellFormedNames rows → All IsNamedAssay (assays_of rows)
assays_named [] named = All-nil IsNamedAssay
assays_named (stored ∷ rows) named =
    by stored.effect (All-head IsNamedRow stored rows named) (assays_named rows (All-tail IsNamedRow stored rows named))
  where
    by : (effect : Effect) → list_all is_name (effect_names effect) ≡ true → All IsNamedAssay (assays_of rows)
        → All IsNamedAssay (cons_option (assay_by effect) (assays_of rows))
    by (Assays assay) is rest = All-cons IsNamedAssay assay (assays_of rows) (first_named assay.component (assay.stream ∷ assay.period ∷ []) is) rest
    by (Declares declared) is rest = rest
    by (Opens name first last) is rest = rest
    by (Books fact late) is rest = rest
    by (Edits id edit reason) is rest = rest
    by (Closes name) is rest = rest

-- a component for which there is an assay has a name of the right form
assayed_named : (component period : List ℕ) (assays : List Assay) → All IsNamedAssay assays → list_any (is_assay_over component period) assays ≡ true → is_name component ≡ true
assayed_named component period [] all some = cc some
assayed_named component period (assay ∷ assays) all some = elim (cases_Bool (is_assay_over component period assay)) [
  | inl is ↦
      let same : assay.component ≡ component = (bytes_decides assay.component component).0 (and_parts (same_name assay.component component) (same_name assay.period period) is).0 in
      subst (λ (name : List ℕ). is_name name ≡ true) same (All-head IsNamedAssay assay assays all)
  | inr other ↦ assayed_named component period assays (All-tail IsNamedAssay assay assays all) (rw other at some)
]

-- so does a component whose balance is answered
component_named : (rows : List StoredRow) (fields : List (List ℕ)) (component : List ℕ) (period : ℕ) → HaveWellFormedNames rows → answer_of rows fields ≡ Says (Component component period)
    → is_name component ≡ true
component_named rows fields component period named is = by (request_in (version_at rows) fields) is
  where
    by : (request : Result Request FormFault) → answer_if rows (named_costs fields) request ≡ Says (Component component period) → is_name component ≡ true
    by (Err fault) is = cc is
    by (Ok request) is =
        let (name, some) = subst (AnswersTo rows request) is (answers_to rows (named_costs fields) request) in
        assayed_named component name (assays_of rows) (assays_named rows named) some

pub named_law : StoredLaw → NamedLaw
named_law law = record { begin = All-nil IsNamedRow; go_on = after_named law; named = all_named; component = component_named }

-- ---- numbers in their ranges

ranges_of : (rows : List StoredRow) → ((i : ℕ) (stored : StoredRow) → slice_get rows i ≡ Some stored → IsEffectInRange stored.effect)
    → All (λ (declared : Declared). IsDeclaredInRange declared) (declared_of rows)
ranges_of [] right = All-nil (λ (declared : Declared). IsDeclaredInRange declared)
ranges_of (stored ∷ rows) right = by stored.effect (right 0 stored refl) (ranges_of rows (λ i s at. right (suc i) s at))
  where
    by : (effect : Effect) → IsEffectInRange effect → All (λ (d : Declared). IsDeclaredInRange d) (declared_of rows)
        → All (λ (d : Declared). IsDeclaredInRange d) (cons_option (declaration_in effect) (declared_of rows))
    by (Declares declared) is rest = All-cons (λ (d : Declared). IsDeclaredInRange d) declared (declared_of rows) is rest
    by (Opens name first last) is rest = rest
    by (Books fact late) is rest = rest
    by (Edits id edit reason) is rest = rest
    by (Closes name) is rest = rest
    by (Assays assay) is rest = rest

pub ranges_law : RangesLaw
ranges_law rows accepted = ranges_of rows (λ i stored at. (accepted i stored at).in_range)

-- ---- grades within their limits

abbrev HasGrade : Assay → Type 0
HasGrade assay = IsGrade assay.grade

grades_in : (rows : List StoredRow) → ((i : ℕ) (stored : StoredRow) → slice_get rows i ≡ Some stored → IsEffectInRange stored.effect) → All HasGrade (assays_of rows)
grades_in [] right = All-nil HasGrade
grades_in (stored ∷ rows) right = by stored.effect (right 0 stored refl) (grades_in rows (λ i s at. right (suc i) s at))
  where
    by : (effect : Effect) → IsEffectInRange effect → All HasGrade (assays_of rows) → All HasGrade (cons_option (assay_by effect) (assays_of rows))
    by (Assays assay) is rest = All-cons HasGrade assay (assays_of rows) is rest
    by (Declares declared) is rest = rest
    by (Opens name first last) is rest = rest
    by (Books fact late) is rest = rest
    by (Edits id edit reason) is rest = rest
    by (Closes name) is rest = rest

-- what holds for each item holds for the one that is found
found_of : {X : Type 0} (P : X → Type 0) (test : X → Bool) (xs : List X) → All P xs → IfSome (find test xs) P
found_of {X} P test [] all = tt
found_of {X} P test (x ∷ xs) all = elim (cases_Bool (test x)) [
  | inl is ↦ rw is (All-head P x xs all)
  | inr other ↦ rw other (found_of P test xs (All-tail P x xs all))
]

pub grades_law : GradesLaw
grades_law rows component period stream accepted =
    graded (find (is_assay_of component period stream) (assays_of rows))
    (found_of HasGrade (is_assay_of component period stream) (assays_of rows) (grades_in rows (λ i stored at. (accepted i stored at).in_range)))
  where
    graded : (found : Option Assay) → IfSome found HasGrade → IfSome (option_map (λ (assay : Assay). assay.grade) found) IsGrade
    graded None is = tt
    graded (Some assay) is = is
