-- What a book keeps stays right if a row joins the others.
use Rattle.std.specs.Prelude.{if◌then◌else◌, IsSome, map, position}
use Rattle.std.specs.Cmp.Lexicographic.{bytes_decides}
use Rattle.std.specs.List.{cons_option}
use Rattle.std.specs.Option.{option_map}
use Rattle.std.proofs.Common.{◌≡◌, ◌∙◌, ℕ, suc, ℤ, ◌<◌, ◌≤◌, refl, pos, Bool, List, [], ◌∷◌, ◌++◌, get_or, length, slice_get, Option, Some, None, sym, ap, ap₂, subst, arith, inl, inr, length-append}
use Rattle.std.proofs.lemmas.Bool.{cases_Bool}
use Rattle.std.proofs.lemmas.List.{append-nil}
use Rattle.std.proofs.lemmas.List.Elements.{All-push, filter-append, filter_map-append}
use Rattle.std.proofs.lemmas.List.Sums.{fold_push}
use Rattle.std.proofs.lemmas.Option.{get_or_from_slice_get, slice_get-get_or, slice_get-map, slice_get_within}
use Rattle.std.proofs.Math.ListN.{get_or-append}
use Rattle.std.proofs.Math.Seq.{get_or-append_seam}
use Rattle.pb_site.specs.declared.declared.Declared.{Declared}
use Rattle.pb_facts.specs.declared.fact.Fact.{Fact}
use Rattle.pb_facts.specs.declared.facts.KeptFact.{KeptFact}
use Rattle.pb_facts.specs.declared.assays.Assay.{Assay}
use Rattle.pb_kinds.specs.declared.rows.Effect.{Effect}
use Rattle.pb_kinds.specs.declared.rows.Effect.TheVariants.{Declares, Opens, Books, Closes, Assays}
use Rattle.pb_book.specs.declared.rows.Edited.{Edited}
use Rattle.pb_book.specs.declared.rows.Part.{Part}
use Rattle.pb_book.specs.declared.rows.Part.TheVariants as part
use Rattle.pb_periods.specs.declared.period.Period.{Period}
use Rattle.pb_book.specs.declared.rows.Place.{Place}
use Rattle.pb_kinds.specs.declared.rows.StoredRow.{StoredRow}
use Rattle.pb_book.specs.Accepted.{AreAccepted, IsAcceptable}
use Rattle.pb_periods.specs.Apart.{is_named}
use Rattle.pb_book.specs.Assays.{assay_by, assays_of}
use Rattle.pb_book.specs.Edits.{edits_of, is_edit}
use Rattle.pb_book.specs.Kept.{AreOf, ArePlaced, IsKept, Shelves, closing, editing, effect_in, opening, row_at, rows_at, shelves_of}
use Rattle.pb_periods.specs.Closing.{closed, closed_if_named}
use Rattle.pb_book.specs.Rows.{declaration_in, declared_of, facts_after, facts_of, live, open_period, periods_after, periods_of}
use Rattle.pb_book.proofs.AcceptedLemmas.{accepted_more}
use Rattle.pb_periods.proofs.PeriodLemmas.{position_at_first}
use Rattle.pb_book.proofs.OriginalLemmas.{Joins, TellsAll, tells_as, tells_itself, tells_same}

-- ---- the parts of the rows, with one more row

pub facts_more : (rows : List StoredRow) (stored : StoredRow) → facts_of (rows ++ stored ∷ []) ≡ facts_after (facts_of rows) stored.effect
facts_more rows stored = fold_push (λ (kept : List KeptFact) (s : StoredRow). facts_after kept s.effect) [] rows stored

pub periods_more_of : (rows : List StoredRow) (stored : StoredRow) → periods_of (rows ++ stored ∷ []) ≡ periods_after (periods_of rows) stored.effect
periods_more_of rows stored = fold_push (λ (periods : List Period) (s : StoredRow). periods_after periods s.effect) [] rows stored

pub declared_more : (rows : List StoredRow) (stored : StoredRow) → declared_of (rows ++ stored ∷ []) ≡ declared_of rows ++ declared_of (stored ∷ [])
declared_more rows stored = filter_map-append (λ (s : StoredRow). declaration_in s.effect) rows (stored ∷ [])

pub declared_same : (rows : List StoredRow) (stored : StoredRow) → declared_of (stored ∷ []) ≡ [] → declared_of (rows ++ stored ∷ []) ≡ declared_of rows
declared_same rows stored none = declared_more rows stored ∙ ap (λ (more : List Declared). declared_of rows ++ more) none ∙ append-nil (declared_of rows)

pub assays_more : (rows : List StoredRow) (stored : StoredRow) → assays_of (rows ++ stored ∷ []) ≡ assays_of rows ++ assays_of (stored ∷ [])
assays_more rows stored = filter_map-append (λ (s : StoredRow). assay_by s.effect) rows (stored ∷ [])

pub assays_same : (rows : List StoredRow) (stored : StoredRow) → assays_of (stored ∷ []) ≡ [] → assays_of (rows ++ stored ∷ []) ≡ assays_of rows
assays_same rows stored none = assays_more rows stored ∙ ap (λ (more : List Assay). assays_of rows ++ more) none ∙ append-nil (assays_of rows)

-- the parts after one more declaration
of_declaration : (rows : List StoredRow) (declared : List Declared) (kept : List KeptFact) (periods : List Period) (assays : List Assay) (at : ℕ) (row : Declared)
    → AreOf rows declared kept periods assays → AreOf (rows ++ record { at = at; effect = Declares row } ∷ []) (declared ++ row ∷ []) kept periods assays
of_declaration rows declared kept periods assays at row right =
    let stored : StoredRow = record { at = at; effect = Declares row } in
    record {
      site = ap (λ (ds : List Declared). ds ++ row ∷ []) right.site ∙ sym (declared_more rows stored);
      facts = right.facts ∙ sym (facts_more rows stored);
      spans = right.spans ∙ sym (periods_more_of rows stored);
      assayed = right.assayed ∙ sym (assays_same rows stored refl);
    }

-- the parts after one more assay
of_assay : (rows : List StoredRow) (declared : List Declared) (kept : List KeptFact) (periods : List Period) (assays : List Assay) (at : ℕ) (assay : Assay)
    → AreOf rows declared kept periods assays → AreOf (rows ++ record { at = at; effect = Assays assay } ∷ []) declared kept periods (assays ++ assay ∷ [])
of_assay rows declared kept periods assays at assay right =
    let stored : StoredRow = record { at = at; effect = Assays assay } in
    record {
      site = right.site ∙ sym (declared_same rows stored refl);
      facts = right.facts ∙ sym (facts_more rows stored);
      spans = right.spans ∙ sym (periods_more_of rows stored);
      assayed = ap (λ (xs : List Assay). xs ++ assay ∷ []) right.assayed ∙ sym (assays_more rows stored);
    }

-- the parts after one more row that declares nothing and gives no assay
of_row : (rows : List StoredRow) (declared : List Declared) (kept : List KeptFact) (periods : List Period) (assays : List Assay) (at : ℕ) (effect : Effect)
    → declared_of (record { at = at; effect = effect } ∷ []) ≡ [] → assays_of (record { at = at; effect = effect } ∷ []) ≡ [] → AreOf rows declared kept periods assays
    → AreOf (rows ++ record { at = at; effect = effect } ∷ []) declared (facts_after kept effect) (periods_after periods effect) assays
of_row rows declared kept periods assays at effect none bare right =
    let stored : StoredRow = record { at = at; effect = effect } in
    record {
      site = right.site ∙ sym (declared_same rows stored none);
      facts = ap (λ (ks : List KeptFact). facts_after ks effect) right.facts ∙ sym (facts_more rows stored);
      spans = ap (λ (ps : List Period). periods_after ps effect) right.spans ∙ sym (periods_more_of rows stored);
      assayed = right.assayed ∙ sym (assays_same rows stored bare);
    }

-- ---- the places of the rows, with one more row

-- a list that has the items of another one where that has them
record Extends {X : Type 0} (xs ys : List X) : Type 0 where
  kept : (i : ℕ) (x : X) → slice_get xs i ≡ Some x → slice_get ys i ≡ Some x

itself : {X : Type 0} (xs : List X) → Extends xs xs
itself xs = record { kept = λ i x is. is }

longer : {X : Type 0} (xs ys : List X) → Extends xs (xs ++ ys)
longer xs ys = record {
  kept = λ i x is.
      let within : i < length xs = slice_get_within xs i x is in
      slice_get-get_or (xs ++ ys) i x (omega (arith, within, length-append xs ys)) ∙ ap Some (get_or-append xs ys x i within ∙ get_or_from_slice_get xs i x x is);
}

-- the images of a list's items stay where they are
pub record StayAs {X Y : Type 0} (f : X → Y) (xs ys : List X) : Type 0 where
  pub kept : (i : ℕ) (y : Y) → option_map f (slice_get xs i) ≡ Some y → option_map f (slice_get ys i) ≡ Some y

stay_as : {X Y : Type 0} (f : X → Y) (xs ys : List X) → Extends xs ys → StayAs f xs ys
stay_as {X} {Y} f xs ys extends = record { kept = λ i y is. by i y (slice_get xs i) refl is }
  where
    by : (i : ℕ) (y : Y) (o : Option X) → slice_get xs i ≡ o → option_map f o ≡ Some y → option_map f (slice_get ys i) ≡ Some y
    by i y None at is = cc is
    by i y (Some x) at is = ap (option_map f) (extends.kept i x at) ∙ is

-- a period that is closed is opened and closed by the same rows
closed_span : (f : Period → Effect) (name : List ℕ) → ((period : Period) → f (closed period) ≡ f period) → (period : Period) → f (closed_if_named name period) ≡ f period
closed_span f name same period = elim (cases_Bool (is_named name period)) [ inl is ↦ rw is (same period) | inr other ↦ rw other refl ]

closed_as : (f : Period → Effect) (name : List ℕ) (periods : List Period) → ((period : Period) → f (closed period) ≡ f period) → StayAs f periods (map (closed_if_named name) periods)
closed_as f name periods same = record {
  kept = λ i y is. ap (option_map f) (slice_get-map (closed_if_named name) periods i) ∙ by (slice_get periods i) ∙ is;
}
  where
    by : (o : Option Period) → option_map f (option_map (closed_if_named name) o) ≡ option_map f o
    by None = refl
    by (Some period) = ap Some (closed_span f name same period)

-- the rows that open and close periods stay where they are
pub record SpansStay (spans more : List Period) : Type 0 where
  pub opened : StayAs opening spans more
  pub closed : StayAs closing spans more

-- the periods stay the same if nothing is closed
same_spans : (spans : List Period) → SpansStay spans spans
same_spans spans = record { opened = stay_as opening spans spans (itself spans); closed = stay_as closing spans spans (itself spans) }

more_spans : (spans : List Period) (period : Period) → SpansStay spans (spans ++ period ∷ [])
more_spans spans period = record {
  opened = stay_as opening spans (spans ++ period ∷ []) (longer spans (period ∷ []));
  closed = stay_as closing spans (spans ++ period ∷ []) (longer spans (period ∷ []));
}

closed_spans : (name : List ℕ) (spans : List Period) → SpansStay spans (map (closed_if_named name) spans)
closed_spans name spans = record { opened = closed_as opening name spans (λ period. refl); closed = closed_as closing name spans (λ period. refl) }

-- shelves that have the rows of others where those have them
record Grows (shelves more : Shelves) : Type 0 where
  grown : (one : Part) (effect : Effect) → effect_in shelves one ≡ Some effect → effect_in more one ≡ Some effect

grows_by : (d ds : List Declared) (t ts : ℕ → Option Fact) (p ps : List Period) (e es : List Edited) (a more : List Assay) → Extends d ds → TellsAll t ts → SpansStay p ps → Extends e es
    → Extends a more → Grows (shelves_of d t p e a) (shelves_of ds ts ps es more)
grows_by d ds t ts p ps e es a more declared told spans edited assays = record { grown = by }
  where
    by : (one : Part) (effect : Effect) → effect_in (shelves_of d t p e a) one ≡ Some effect → effect_in (shelves_of ds ts ps es more) one ≡ Some effect
    by (part.Declared i) effect is = (stay_as (λ (x : Declared). Declares x) d ds declared).kept i effect is
    by (part.Opened i) effect is = spans.opened.kept i effect is
    by (part.Booked i late) effect is = tells_as (λ (x : Fact). Books x late) t ts told i effect is
    by (part.Edited i) effect is = (stay_as editing e es edited).kept i effect is
    by (part.Closed i) effect is = spans.closed.kept i effect is
    by (part.Assayed i) effect is = (stay_as (λ (x : Assay). Assays x) a more assays).kept i effect is

-- a row with the number of its record
abbrev pub stored_at : ℕ → Option Effect → Option StoredRow
stored_at at o = option_map (λ (effect : Effect). let stored : StoredRow = record { at = at; effect = effect } in stored) o

-- the row at a place is the same on shelves that grew
row_stays : (shelves more : Shelves) (place : Place) → Grows shelves more → IsSome (row_at shelves place) → row_at more place ≡ row_at shelves place
row_stays shelves more place grows some = by (effect_in shelves place.part) refl (subst (λ (o : Option Effect). IsSome (stored_at place.at o)) refl some)
  where
    by : (o : Option Effect) → effect_in shelves place.part ≡ o → IsSome (stored_at place.at o) → stored_at place.at (effect_in more place.part) ≡ stored_at place.at (effect_in shelves place.part)
    by None is some = cc some
    by (Some effect) is some = ap (stored_at place.at) (grows.grown place.part effect is ∙ sym is)

-- so are all rows
rows_stay : (shelves more : Shelves) (places : List Place) → Grows shelves more → ArePlaced shelves places → rows_at more places ≡ rows_at shelves places
rows_stay shelves more [] grows placed = refl
rows_stay shelves more (place ∷ places) grows placed =
    let first = row_stays shelves more place grows (placed 0 place (omega arith)) in
    let rest = rows_stay shelves more places grows (λ i e lt. placed (suc i) e (omega (arith, lt))) in
    ap₂ cons_option first rest

placed_stay : (shelves more : Shelves) (places : List Place) → Grows shelves more → ArePlaced shelves places → ArePlaced more places
placed_stay shelves more places grows placed =
    λ i e lt. let some = placed i e lt in subst (λ (o : Option StoredRow). IsSome o) (sym (row_stays shelves more _ grows some)) some

-- one more place
rows_more : (shelves more : Shelves) (places : List Place) (place : Place) (stored : StoredRow) → Grows shelves more → ArePlaced shelves places
    → row_at more place ≡ Some stored → rows_at more (places ++ place ∷ []) ≡ rows_at shelves places ++ stored ∷ []
rows_more shelves more places place stored grows placed is =
    filter_map-append (row_at more) places (place ∷ [])
    ∙ ap₂ (λ (xs ys : List StoredRow). xs ++ ys) (rows_stay shelves more places grows placed) (ap (λ (o : Option StoredRow). cons_option o []) is)

placed_more : (shelves more : Shelves) (places : List Place) (place : Place) (stored : StoredRow) → Grows shelves more → ArePlaced shelves places
    → row_at more place ≡ Some stored → ArePlaced more (places ++ place ∷ [])
placed_more shelves more places place stored grows placed is =
    All-push (λ (q : Place). IsSome (row_at more q)) places place (placed_stay shelves more places grows placed)
    (subst (λ (o : Option StoredRow). IsSome o) (sym is) refl)

-- ---- what is kept, with one more row

-- the places of the edits, if a row joins the others: that of an edit joins them
abbrev edits_after : Effect → List Place → Place → List Place
edits_after effect edits place = if is_edit effect then edits ++ place ∷ [] else edits

-- what is kept of the rows, and of one more
pub record IsKeptAfter (shelves more : Shelves) (kept : List KeptFact) (places edits : List Place) (place : Place) (stored : StoredRow) : Type 0 where
  pub rows : rows_at more (places ++ place ∷ []) ≡ rows_at shelves places ++ stored ∷ []
  pub right : IsKept more kept (places ++ place ∷ []) edits

-- the edits, if a row joins the others
record AreEditsOf (more : Shelves) (edits : List Place) (rows : List StoredRow) : Type 0 where
  placed : ArePlaced more edits
  are : rows_at more edits ≡ edits_of rows

edits_more : (shelves more : Shelves) (edits : List Place) (place : Place) (stored : StoredRow) (rows : List StoredRow) → Grows shelves more → ArePlaced shelves edits
    → rows_at shelves edits ≡ edits_of rows → row_at more place ≡ Some stored → AreEditsOf more (edits_after stored.effect edits place) (rows ++ stored ∷ [])
edits_more shelves more edits place stored rows grows placed are is = elim (cases_Bool (is_edit stored.effect)) [
  | inl edit ↦ rw edit (record {
    placed = placed_more shelves more edits place stored grows placed is;
    are =
        rows_more shelves more edits place stored grows placed is ∙ ap (λ (xs : List StoredRow). xs ++ stored ∷ []) are
        ∙ sym (split ∙ rw edit refl);
  })
  | inr other ↦ rw other (record {
    placed = placed_stay shelves more edits grows placed;
    are = rows_stay shelves more edits grows placed ∙ are ∙ sym (split ∙ rw other (append-nil (edits_of rows)));
  })
]
  where
    split : edits_of (rows ++ stored ∷ []) ≡ edits_of rows ++ edits_of (stored ∷ [])
    split = filter-append (λ (s : StoredRow). is_edit s.effect) rows (stored ∷ [])

kept_more : (shelves more : Shelves) (kept ks : List KeptFact) (places edits : List Place) (place : Place) (stored : StoredRow) → IsKept shelves kept places edits
    → Grows shelves more → row_at more place ≡ Some stored → IsAcceptable (rows_at shelves places) stored.effect
    → AreOf (rows_at shelves places ++ stored ∷ []) more.declared ks more.spans more.assays → ((i : ℕ) → length ks ≤ i → more.told i ≡ None)
    → IsKeptAfter shelves more ks places (edits_after stored.effect edits place) place stored
kept_more shelves more kept ks places edits place stored right grows is fine parts told =
    let rows = rows_more shelves more places place stored grows right.placed is in
    let edited = edits_more shelves more edits place stored (rows_at shelves places) grows right.edited right.edit_rows is in record {
      rows = rows;
      right = record {
        placed = placed_more shelves more places place stored grows right.placed is;
        parts = subst (λ (r : List StoredRow). AreOf r more.declared ks more.spans more.assays) (sym rows) parts;
        accepted = subst AreAccepted (sym rows) (accepted_more (rows_at shelves places) stored right.accepted fine);
        told = told;
        edited = edited.placed;
        edit_rows = edited.are ∙ ap edits_of (sym rows);
      };
    }

last_item : {X : Type 0} (xs : List X) (x : X) → slice_get (xs ++ x ∷ []) (length xs) ≡ Some x
last_item xs x = slice_get-get_or (xs ++ x ∷ []) (length xs) x (omega (arith, length-append xs (x ∷ []))) ∙ ap Some (get_or-append_seam xs x [] x)

-- one more declaration
pub kept_declaration : (declared : List Declared) (told : ℕ → Option Fact) (spans : List Period) (edited : List Edited) (assays : List Assay) (kept : List KeptFact) (places edits : List Place) (at i : ℕ) (row : Declared)
    → IsKept (shelves_of declared told spans edited assays) kept places edits → IsAcceptable (rows_at (shelves_of declared told spans edited assays) places) (Declares row) → i ≡ length declared
    → IsKeptAfter (shelves_of declared told spans edited assays) (shelves_of (declared ++ row ∷ []) told spans edited assays) kept places edits
    (record { at = at; part = part.Declared i }) (record { at = at; effect = Declares row })
kept_declaration declared told spans edited assays kept places edits at i row right fine last =
    let before = shelves_of declared told spans edited assays in
    kept_more before (shelves_of (declared ++ row ∷ []) told spans edited assays) kept kept places edits (record { at = at; part = part.Declared i })
    (record { at = at; effect = Declares row }) right
    (grows_by declared (declared ++ row ∷ []) told told spans spans edited edited assays assays (longer declared (row ∷ [])) (tells_itself told) (same_spans spans) (itself edited) (itself assays))
    (rw (last, last_item declared row) refl)
    fine
    (of_declaration (rows_at before places) declared kept spans assays at row right.parts)
    right.told

-- one more period
pub kept_period : (declared : List Declared) (told : ℕ → Option Fact) (spans : List Period) (edited : List Edited) (assays : List Assay) (kept : List KeptFact) (places edits : List Place) (at i : ℕ) (name : List ℕ) (first last : ℤ)
    → IsKept (shelves_of declared told spans edited assays) kept places edits → IsAcceptable (rows_at (shelves_of declared told spans edited assays) places) (Opens name first last) → i ≡ length spans
    → IsKeptAfter (shelves_of declared told spans edited assays) (shelves_of declared told (spans ++ open_period name first last ∷ []) edited assays) kept places edits
    (record { at = at; part = part.Opened i }) (record { at = at; effect = Opens name first last })
kept_period declared told spans edited assays kept places edits at i name first last right fine behind =
    let before = shelves_of declared told spans edited assays in
    let period = open_period name first last in
    kept_more before (shelves_of declared told (spans ++ period ∷ []) edited assays) kept kept places edits (record { at = at; part = part.Opened i })
    (record { at = at; effect = Opens name first last }) right
    (grows_by declared declared told told spans (spans ++ period ∷ []) edited edited assays assays (itself declared) (tells_itself told) (more_spans spans period) (itself edited) (itself assays))
    (rw (behind, last_item spans period) refl)
    fine
    (of_row (rows_at before places) declared kept spans assays at (Opens name first last) refl refl right.parts)
    right.told

-- one more fact, late or not
pub kept_fact : (declared : List Declared) (told more : ℕ → Option Fact) (spans : List Period) (edited : List Edited) (assays : List Assay) (kept : List KeptFact) (places edits : List Place) (at i : ℕ) (fact : Fact) (late : Bool)
    → IsKept (shelves_of declared told spans edited assays) kept places edits → IsAcceptable (rows_at (shelves_of declared told spans edited assays) places) (Books fact late) → i ≡ length kept → Joins told more kept fact
    → IsKeptAfter (shelves_of declared told spans edited assays) (shelves_of declared more spans edited assays) (kept ++ live fact ∷ []) places
    (edits_after (Books fact late) edits (record { at = at; part = part.Booked i late })) (record { at = at; part = part.Booked i late }) (record { at = at; effect = Books fact late })
kept_fact declared told more spans edited assays kept places edits at i fact late right fine last joins =
    let before = shelves_of declared told spans edited assays in
    kept_more before (shelves_of declared more spans edited assays) kept (kept ++ live fact ∷ []) places edits (record { at = at; part = part.Booked i late })
    (record { at = at; effect = Books fact late }) right
    (grows_by declared declared told more spans spans edited edited assays assays (itself declared) joins.all (same_spans spans) (itself edited) (itself assays))
    (rw (last, joins.last) refl)
    fine
    (of_row (rows_at before places) declared kept spans assays at (Books fact late) refl refl right.parts)
    joins.none

-- one more edit of a fact
pub kept_edit : (declared : List Declared) (told tells : ℕ → Option Fact) (spans : List Period) (edited : List Edited) (assays : List Assay) (kept : List KeptFact) (places edits : List Place) (at i : ℕ) (one : Edited)
    → IsKept (shelves_of declared told spans edited assays) kept places edits → IsAcceptable (rows_at (shelves_of declared told spans edited assays) places) (editing one) → i ≡ length edited
    → length kept ≡ length (facts_after kept (editing one)) → ((i : ℕ) → tells i ≡ told i)
    → IsKeptAfter (shelves_of declared told spans edited assays) (shelves_of declared tells spans (edited ++ one ∷ []) assays) (facts_after kept (editing one)) places
    (edits ++ record { at = at; part = part.Edited i } ∷ []) (record { at = at; part = part.Edited i }) (record { at = at; effect = editing one })
kept_edit declared told tells spans edited assays kept places edits at i one right fine last long same =
    let before = shelves_of declared told spans edited assays in
    kept_more before (shelves_of declared tells spans (edited ++ one ∷ []) assays) kept (facts_after kept (editing one)) places edits (record { at = at; part = part.Edited i })
    (record { at = at; effect = editing one }) right
    (grows_by declared declared told tells spans spans edited (edited ++ one ∷ []) assays assays (itself declared) (tells_same told tells same) (same_spans spans) (longer edited (one ∷ [])) (itself assays))
    (rw (last, last_item edited one) refl)
    fine
    (of_row (rows_at before places) declared kept spans assays at (editing one) refl refl right.parts)
    (λ i behind. same i ∙ right.told i (omega (arith, behind, long)))

-- the period of a name, closed
closed_there : (name : List ℕ) (spans : List Period) (i : ℕ) → Some i ≡ position (is_named name) spans → option_map closing (slice_get (map (closed_if_named name) spans) i) ≡ Some (Closes name)
closed_there name spans i is =
    let found = position_at_first (is_named name) spans i some_period is in
    let period = get_or spans i some_period in
    let same : name ≡ period.name = (bytes_decides name period.name).0 found.1 in
    (closed_as closing name spans (λ p. refl)).kept i (Closes name)
    (ap (option_map closing) (slice_get-get_or spans i some_period found.0) ∙ ap (λ (n : List ℕ). Some (Closes n)) (sym same))
  where
    some_period : Period
    some_period = open_period [] (pos 0) (pos 0)

-- one more closing
pub kept_closing : (declared : List Declared) (told : ℕ → Option Fact) (spans : List Period) (edited : List Edited) (assays : List Assay) (kept : List KeptFact) (places edits : List Place) (at i : ℕ) (name : List ℕ)
    → IsKept (shelves_of declared told spans edited assays) kept places edits → IsAcceptable (rows_at (shelves_of declared told spans edited assays) places) (Closes name) → Some i ≡ position (is_named name) spans
    → IsKeptAfter (shelves_of declared told spans edited assays) (shelves_of declared told (map (closed_if_named name) spans) edited assays) kept places
    (edits ++ record { at = at; part = part.Closed i } ∷ []) (record { at = at; part = part.Closed i }) (record { at = at; effect = Closes name })
kept_closing declared told spans edited assays kept places edits at i name right fine found =
    let before = shelves_of declared told spans edited assays in
    kept_more before (shelves_of declared told (map (closed_if_named name) spans) edited assays) kept kept places edits (record { at = at; part = part.Closed i })
    (record { at = at; effect = Closes name }) right
    (grows_by declared declared told told spans (map (closed_if_named name) spans) edited edited assays assays (itself declared) (tells_itself told) (closed_spans name spans) (itself edited) (itself assays))
    (rw (closed_there name spans i found) refl)
    fine
    (of_row (rows_at before places) declared kept spans assays at (Closes name) refl refl right.parts)
    right.told

-- one more assay
pub kept_assay : (declared : List Declared) (told : ℕ → Option Fact) (spans : List Period) (edited : List Edited) (assays : List Assay) (kept : List KeptFact) (places edits : List Place) (at i : ℕ) (assay : Assay)
    → IsKept (shelves_of declared told spans edited assays) kept places edits → IsAcceptable (rows_at (shelves_of declared told spans edited assays) places) (Assays assay) → i ≡ length assays
    → IsKeptAfter (shelves_of declared told spans edited assays) (shelves_of declared told spans edited (assays ++ assay ∷ [])) kept places edits
    (record { at = at; part = part.Assayed i }) (record { at = at; effect = Assays assay })
kept_assay declared told spans edited assays kept places edits at i assay right fine last =
    let before = shelves_of declared told spans edited assays in
    kept_more before (shelves_of declared told spans edited (assays ++ assay ∷ [])) kept kept places edits (record { at = at; part = part.Assayed i })
    (record { at = at; effect = Assays assay }) right
    (grows_by declared declared told told spans spans edited edited assays (assays ++ assay ∷ []) (itself declared) (tells_itself told) (same_spans spans) (itself edited) (longer assays (assay ∷ [])))
    (rw (last, last_item assays assay) refl)
    fine
    (of_assay (rows_at before places) declared kept spans assays at assay right.parts)
    right.told

-- what is kept, if each fact is returned as before
pub record IsKeptSame (shelves more : Shelves) (kept : List KeptFact) (places edits : List Place) : Type 0 where
  pub rows : rows_at more places ≡ rows_at shelves places
  pub right : IsKept more kept places edits

pub kept_same : (declared : List Declared) (told tells : ℕ → Option Fact) (spans : List Period) (edited : List Edited) (assays : List Assay) (kept : List KeptFact) (places edits : List Place)
    → IsKept (shelves_of declared told spans edited assays) kept places edits → ((i : ℕ) → tells i ≡ told i)
    → IsKeptSame (shelves_of declared told spans edited assays) (shelves_of declared tells spans edited assays) kept places edits
kept_same declared told tells spans edited assays kept places edits right same =
    let before = shelves_of declared told spans edited assays in
    let more = shelves_of declared tells spans edited assays in
    let grows =
    grows_by declared declared told tells spans spans edited edited assays assays (itself declared) (tells_same told tells same) (same_spans spans) (itself edited) (itself assays) in
    let rows = rows_stay before more places grows right.placed in record {
      rows = rows;
      right = record {
        placed = placed_stay before more places grows right.placed;
        parts = subst (λ (r : List StoredRow). AreOf r declared kept spans assays) (sym rows) right.parts;
        accepted = subst AreAccepted (sym rows) right.accepted;
        told = λ i behind. same i ∙ right.told i behind;
        edited = placed_stay before more edits grows right.edited;
        edit_rows = rows_stay before more edits grows right.edited ∙ right.edit_rows ∙ ap edits_of (sym rows);
      };
    }
