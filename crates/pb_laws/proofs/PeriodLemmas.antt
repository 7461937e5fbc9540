-- What closes a period, and what opens one.
use Rattle.std.specs.Prelude.{filter_map, map, not, ◌&&◌, ◌||◌, if◌then◌else◌}
use Rattle.std.specs.List.{AllByRecursion, fold, list_any}
use Rattle.std.specs.Cmp.Lexicographic.{bytes_decides}
use Rattle.std.proofs.Common.{◌≡◌, ◌∙◌, ℕ, suc, ◌<◌, Bool, true, false, List, [], ◌∷◌, ◌++◌, length, get_or, slice_get, Option, Some, None, refl, sym, ap, subst, inl, inr, arith, append_assoc, length-append}
use Rattle.std.proofs.lemmas.Bool.{cases_Bool, cases_eq, cases_lt}
use Rattle.std.proofs.lemmas.List.{append-nil, get_or_append_left, map-append}
use Rattle.std.proofs.lemmas.List.Quantifiers.{Any-push}
use Rattle.std.proofs.lemmas.List.Sums.{fold_push}
use Rattle.std.proofs.lemmas.Option.{get_or_from_slice_get, slice_get-get_or, slice_get_within}
use Rattle.std.proofs.Math.Seq.{get_or-append_seam, take-append_seam}
use Rattle.pb_fixed.proofs.Lists.{AllByRecursion-map, all_at}
use Rattle.pb_rows.proofs.TextLaws.{same_self}
use Rattle.pb_kinds.specs.declared.rows.Effect.{Effect}
use Rattle.pb_kinds.specs.declared.rows.Effect.TheVariants.{Declares, Opens, Books, Edits, Closes, Assays}
use Rattle.pb_book.specs.declared.answer.Refused.{Refused}
use Rattle.pb_book.specs.declared.answer.Refused.TheVariants.{Unknown}
use Rattle.pb_periods.specs.declared.period.Period.{Period}
use Rattle.pb_kinds.specs.declared.rows.StoredRow.{StoredRow}
use Rattle.pb_book.specs.Accepted.{AreAccepted, IsAcceptable}
use Rattle.pb_periods.specs.Apart.{AreApart, is_named}
use Rattle.pb_book.specs.Laws.{AcceptedLaw}
use Rattle.pb_book.specs.Plain.{opened}
use Rattle.pb_periods.specs.Closing.{closed_if_named, is_closed_named}
use Rattle.pb_book.specs.Refusals.{refusal_of}
use Rattle.pb_book.specs.Rows.{open_period, periods_after, periods_of}
use Rattle.pb_laws.specs.Closing.{ClosedLaw, OpenedLaw, SomeRowCloses, opened_by}

-- ---- rows that were accepted one after another
grown : (P : List StoredRow → Type 0) → ((rows : List StoredRow) (stored : StoredRow) → P rows → IsAcceptable rows stored.effect → P (rows ++ stored ∷ []))
    → (before rest : List StoredRow) → P before → AreAccepted (before ++ rest) → P (before ++ rest)
grown P step before [] right accepted = subst P (sym (append-nil before)) right
grown P step before (stored ∷ rest) right accepted =
    let here = get_or-append_seam before stored rest stored in
    let own : IsAcceptable before stored.effect =
    rw (take-append_seam before (stored ∷ rest)) at (accepted (length before) stored (slice_get-get_or (before ++ stored ∷ rest) (length before) stored (omega (arith, length-append before (stored ∷ rest))) ∙ ap Some here)) in
    let split : (before ++ stored ∷ []) ++ rest ≡ before ++ stored ∷ rest = append_assoc before (stored ∷ []) rest in
    subst P split (grown P step (before ++ stored ∷ []) rest (step before stored right own) (subst AreAccepted (sym split) accepted))

more_periods : (rows : List StoredRow) (stored : StoredRow) → periods_of (rows ++ stored ∷ []) ≡ periods_after (periods_of rows) stored.effect
more_periods rows stored = fold_push (λ (periods : List Period) (s : StoredRow). periods_after periods s.effect) [] rows stored

-- ---- some of a list
any_more : {X : Type 0} (p : X → Bool) (xs ys : List X) → list_any p xs ≡ true → list_any p (xs ++ ys) ≡ true
any_more p [] ys is = cc is
any_more p (x ∷ xs) ys is = elim (cases_Bool (p x)) [
  | inl here ↦ rw here refl
  | inr other ↦
      let rest : list_any p xs ≡ true = rw other at is in
      rw other (any_more p xs ys rest)
]

any_image : {X : Type 0} (p q : X → Bool) (f : X → X) → ((x : X) → p x ≡ true → q (f x) ≡ true) → (xs : List X) → list_any p xs ≡ true → list_any q (map f xs) ≡ true
any_image p q f each [] is = cc is
any_image p q f each (x ∷ xs) is = elim (cases_Bool (p x)) [
  | inl here ↦ rw (each x here) refl
  | inr other ↦
      let rest : list_any p xs ≡ true = rw other at is in
      last (q (f x)) (any_image p q f each xs rest)
]
  where
    last : (b : Bool) → list_any q (map f xs) ≡ true → (b || list_any q (map f xs)) ≡ true
    last true e = refl
    last false e = e

any_place : {X : Type 0} (p : X → Bool) (xs : List X) → list_any p xs ≡ true → (k : ℕ) × (x : X) × (slice_get xs k ≡ Some x) × (p x ≡ true)
any_place p [] is = cc is
any_place p (x ∷ xs) is = elim (cases_Bool (p x)) [
  | inl here ↦ (0, x, refl, here)
  | inr other ↦
      let rest : list_any p xs ≡ true = rw other at is in
      let (k, y, at, holds) = any_place p xs rest in
      (suc k, y, at, holds)
]

-- ---- a row closes the period of its name
both : (a b : Bool) → (a && b) ≡ true → (a ≡ true) × (b ≡ true)
both true b is = (refl, is)
both false b is = cc is

stays_closed : (name other : List ℕ) (p : Period) → is_closed_named name p ≡ true → is_closed_named name (closed_if_named other p) ≡ true
stays_closed name other p is = elim (cases_Bool (is_named other p)) [ inl named ↦ rw named (both p.closed (is_named name p) is).1 | inr not_named ↦ rw not_named is ]

becomes_closed : (name : List ℕ) (p : Period) → is_named name p ≡ true → is_closed_named name (closed_if_named name p) ≡ true
becomes_closed name p is = rw is is

abbrev HasClosed : List ℕ → List Period → Type 0
HasClosed name periods = list_any (is_closed_named name) periods ≡ true

has_closed_after : (effect : Effect) (name : List ℕ) (periods : List Period) → HasClosed name periods → HasClosed name (periods_after periods effect)
has_closed_after (Declares declared) name periods is = is
has_closed_after (Opens other first last) name periods is = any_more (is_closed_named name) periods (open_period other first last ∷ []) is
has_closed_after (Books fact late) name periods is = is
has_closed_after (Edits id edit reason) name periods is = is
has_closed_after (Closes other) name periods is = any_image (is_closed_named name) (is_closed_named name) (closed_if_named other) (stays_closed name other) periods is
has_closed_after (Assays assay) name periods is = is

-- a closing without a cause to refuse it is of a period that exists
there : (rows : List StoredRow) (name : List ℕ) → refusal_of rows (Closes name) ≡ None → list_any (is_named name) (periods_of rows) ≡ true
there rows name none = by (list_any (is_named name) (periods_of rows)) _ none
  where
    by : (b : Bool) (rest : Option Refused) → (if not b then Some Unknown else rest) ≡ None → b ≡ true
    by true rest e = refl
    by false rest e = cc e

-- ---- a closed period was closed by a row
abbrev IsClosedByRow : List StoredRow → Period → Type 0
IsClosedByRow rows p = p.closed ≡ true → SomeRowCloses rows p.name

row_more : (rows : List StoredRow) (stored : StoredRow) (name : List ℕ) → SomeRowCloses rows name → SomeRowCloses (rows ++ stored ∷ []) name
row_more rows stored name (k, row, lt, is, closes) =
    (k, row, omega (arith, lt, length-append rows (stored ∷ [])), get_or_append_left rows (stored ∷ []) row k lt ∙ is, closes)

by_row_more : (rows : List StoredRow) (stored : StoredRow) (p : Period) → IsClosedByRow rows p → IsClosedByRow (rows ++ stored ∷ []) p
by_row_more rows stored p before closed = row_more rows stored p.name (before closed)

all_more : {X : Type 0} (P : X → Type 0) (xs : List X) (x : X) → AllByRecursion P xs → P x → AllByRecursion P (xs ++ x ∷ [])
all_more P [] x all here = (here, tt)
all_more P (y ∷ xs) x all here = (all.0, all_more P xs x all.1 here)

closed_images : (rows : List StoredRow) (stored : StoredRow) (name : List ℕ) → stored.effect ≡ Closes name → (periods : List Period) → AllByRecursion (IsClosedByRow rows) periods
    → AllByRecursion (IsClosedByRow (rows ++ stored ∷ [])) (map (closed_if_named name) periods)
closed_images rows stored name closes [] all = tt
closed_images rows stored name closes (p ∷ periods) all = (one, closed_images rows stored name closes periods all.1)
  where
    one : IsClosedByRow (rows ++ stored ∷ []) (closed_if_named name p)
    one = elim (cases_Bool (is_named name p)) [
      | inl named ↦
          rw named
          (λ closed. Any-push (λ (s : StoredRow). s.effect ≡ Closes p.name) rows stored (closes ∙ ap Closes ((bytes_decides name p.name).0 named)))
      | inr other ↦ rw other (by_row_more rows stored p all.0)
    ]

by_rows_after : (rows : List StoredRow) (stored : StoredRow) (effect : Effect) → stored.effect ≡ effect → (periods : List Period) → AllByRecursion (IsClosedByRow rows) periods
    → AllByRecursion (IsClosedByRow (rows ++ stored ∷ [])) (periods_after periods effect)
by_rows_after rows stored (Closes name) is periods all = closed_images rows stored name is periods all
by_rows_after rows stored (Opens name first last) is periods all =
    all_more (IsClosedByRow (rows ++ stored ∷ [])) periods (open_period name first last)
    (AllByRecursion-map (IsClosedByRow rows) (IsClosedByRow (rows ++ stored ∷ [])) periods (by_row_more rows stored) all) (λ closed. cc closed)
by_rows_after rows stored (Declares declared) is periods all = AllByRecursion-map (IsClosedByRow rows) (IsClosedByRow (rows ++ stored ∷ [])) periods (by_row_more rows stored) all
by_rows_after rows stored (Books fact late) is periods all = AllByRecursion-map (IsClosedByRow rows) (IsClosedByRow (rows ++ stored ∷ [])) periods (by_row_more rows stored) all
by_rows_after rows stored (Edits id edit reason) is periods all = AllByRecursion-map (IsClosedByRow rows) (IsClosedByRow (rows ++ stored ∷ [])) periods (by_row_more rows stored) all
by_rows_after rows stored (Assays assay) is periods all = AllByRecursion-map (IsClosedByRow rows) (IsClosedByRow (rows ++ stored ∷ [])) periods (by_row_more rows stored) all

-- ---- both, after all rows
abbrev HasItsClosed : List Period → StoredRow → Type 0
HasItsClosed periods stored = (name : List ℕ) → stored.effect ≡ Closes name → HasClosed name periods

record AreClosings (rows : List StoredRow) : Type 0 where
  by_rows : AllByRecursion (IsClosedByRow rows) (periods_of rows)
  closes : AllByRecursion (HasItsClosed (periods_of rows)) rows

one_more : (rows : List StoredRow) (stored : StoredRow) → AreClosings rows → IsAcceptable rows stored.effect → AreClosings (rows ++ stored ∷ [])
one_more rows stored right accepted =
    let periods = periods_after (periods_of rows) stored.effect in
    let same = more_periods rows stored in
    record {
      by_rows = rw same (by_rows_after rows stored stored.effect refl (periods_of rows) right.by_rows);
      closes = rw same
          (all_more (HasItsClosed periods) rows stored
          (AllByRecursion-map (HasItsClosed (periods_of rows)) (HasItsClosed periods) rows (λ s before name is. has_closed_after stored.effect name (periods_of rows) (before name is)) right.closes)
          here);
    }
  where
    here : HasItsClosed (periods_after (periods_of rows) stored.effect) stored
    here name is =
        let no_cause : refusal_of rows (Closes name) ≡ None = subst (λ (effect : Effect). refusal_of rows effect ≡ None) is accepted.no_cause in
        subst (λ (effect : Effect). HasClosed name (periods_after (periods_of rows) effect)) (sym is)
        (any_image (is_named name) (is_closed_named name) (closed_if_named name) (becomes_closed name) (periods_of rows) (there rows name no_cause))

are_closings : (rows : List StoredRow) → AreAccepted rows → AreClosings rows
are_closings rows accepted = grown AreClosings one_more [] rows (record { by_rows = tt; closes = tt }) accepted

-- ---- no two periods share a name
not_earlier : (periods : List Period) (i k : ℕ) (p q : Period) → AreApart periods → slice_get periods i ≡ Some p → slice_get periods k ≡ Some q → p.name ≡ q.name → i < k → ⊥
not_earlier periods i k p q apart here other same less =
    let first : get_or periods i p ≡ p = get_or_from_slice_get periods i p p here in
    let second : get_or periods k p ≡ q = get_or_from_slice_get periods k q p other in
    let names : is_named q.name p ≡ false = rw (first, second) at (apart i k p less (slice_get_within periods k q other)).names in
    cc (sym (same_self q.name) ∙ ap (λ (name : List ℕ). is_named q.name (record p { name = name })) (sym same) ∙ names)

pub closed_exactly : AcceptedLaw → ClosedLaw
closed_exactly law rows accepted i d less = (all_at (IsClosedByRow rows) (periods_of rows) i d closings.by_rows less, back)
  where
    closings : AreClosings rows
    closings = are_closings rows accepted

    apart : AreApart (periods_of rows)
    apart = (law.consistent rows accepted).apart

    period : Period
    period = get_or (periods_of rows) i d

    same : (q : Period) → slice_get (periods_of rows) i ≡ Some q → q.closed ≡ true → period.closed ≡ true
    same q at closed = subst (λ (p : Period). p.closed ≡ true) (sym (get_or_from_slice_get (periods_of rows) i q d at)) closed

    back : SomeRowCloses rows period.name → period.closed ≡ true
    back (k, stored, within, is, closes) =
        let effect = ap (λ (s : StoredRow). s.effect) is ∙ closes in
        let (j, q, at, holds) = any_place (is_closed_named period.name) (periods_of rows) (all_at (HasItsClosed (periods_of rows)) rows k stored closings.closes within period.name effect) in
        let (closed, named) = both q.closed (is_named period.name q) holds in
        let name : period.name ≡ q.name = (bytes_decides period.name q.name).0 named in
        let here = slice_get-get_or (periods_of rows) i d less in
        elim (cases_eq i j) [
          | inl equal ↦ same q (ap (slice_get (periods_of rows)) equal ∙ at) closed
          | inr differs ↦ elim (cases_lt i j) [
            | inl before ↦ absurd (not_earlier (periods_of rows) i j period q apart here at name before)
            | inr later ↦ absurd (not_earlier (periods_of rows) j i q period apart at here (sym name) (omega (arith, later, differs)))
          ]
        ]

-- ---- what opens a period
opened_same : (name : List ℕ) (periods : List Period) → map opened (map (closed_if_named name) periods) ≡ map opened periods
opened_same name [] = refl
opened_same name (p ∷ periods) = elim (cases_Bool (is_named name p)) [
  | inl named ↦ rw named (ap (λ (ps : List Period). opened p ∷ ps) (opened_same name periods))
  | inr other ↦ rw other (ap (λ (ps : List Period). opened p ∷ ps) (opened_same name periods))
]

abbrev all_opened : List StoredRow → List Period
all_opened rows = filter_map (λ (stored : StoredRow). opened_by stored.effect) rows

one_opened : (periods : List Period) (at : ℕ) (effect : Effect) (rest : List StoredRow)
    → map opened (periods_after periods effect) ++ all_opened rest ≡ map opened periods ++ all_opened (record { at = at; effect = effect } ∷ rest)
one_opened periods at (Opens name first last) rest =
    let period = open_period name first last in
    ap (λ (ps : List Period). ps ++ all_opened rest) (map-append opened periods (period ∷ [])) ∙ append_assoc (map opened periods) (period ∷ []) (all_opened rest)
one_opened periods at (Closes name) rest = ap (λ (ps : List Period). ps ++ all_opened rest) (opened_same name periods)
one_opened periods at (Declares declared) rest = refl
one_opened periods at (Books fact late) rest = refl
one_opened periods at (Edits id edit reason) rest = refl
one_opened periods at (Assays assay) rest = refl

opened_from : (periods : List Period) (rows : List StoredRow)
    → map opened (fold (λ (so_far : List Period) (stored : StoredRow). periods_after so_far stored.effect) periods rows) ≡ map opened periods ++ all_opened rows
opened_from periods [] = sym (append-nil (map opened periods))
opened_from periods (stored ∷ rows) = opened_from (periods_after periods stored.effect) rows ∙ one_opened periods stored.at stored.effect rows

pub opened_alone : OpenedLaw
opened_alone rows = opened_from [] rows
