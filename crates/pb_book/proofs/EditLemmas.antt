-- The places of a book's rows, and its edits.
use Rattle.std.specs.Prelude.{IsSome}
use Rattle.std.proofs.lemmas.Option.{slice_get_past}
use Rattle.std.specs.Option.{option_map_or}
use Rattle.std.proofs.Common.{◌≡◌, ◌∙◌, ◌<◌, ◌≤◌, ℕ, zero, suc, List, [], ◌∷◌, length, slice_get, Bool, false, Option, Some, None, refl, sym, ap, ap₂, arith}
use Rattle.pb_facts.specs.declared.facts.KeptFact.{KeptFact}
use Rattle.pb_site.specs.declared.declared.Declared.{Declared}
use Rattle.pb_site.specs.Site.{version_of}
use Rattle.pb_facts.specs.declared.assays.Assay.{Assay}
use Rattle.pb_periods.specs.declared.period.Period.{Period}
use Rattle.pb_book.specs.declared.rows.Place.{Place}
use Rattle.pb_kinds.specs.declared.rows.StoredRow.{StoredRow}
use Rattle.pb_book.specs.Edits.{edit_touches, edits_of, row_touches, touches_at}
use Rattle.pb_book.specs.Kept.{AreOf, ArePlaced, IsKept, Shelves, row_at, rows_at}
use Rattle.pb_book.specs.Rows.{declared_of, facts_of, version_at}
use Rattle.pb_book.specs.TakenOut.{touching_of}
use Rattle.pb_periods.specs.Touching.{touches_in}

-- places that have rows have as many rows
pub placed_length : (shelves : Shelves) (places : List Place) → ArePlaced shelves places → length (rows_at shelves places) ≡ length places
placed_length shelves [] placed = refl
placed_length shelves (place ∷ places) placed =
    by (placed_length shelves places (λ i e lt. placed (suc i) e (omega (arith, lt)))) (row_at shelves place) refl (placed 0 place (omega arith))
  where
    by : length (rows_at shelves places) ≡ length places → (o : Option StoredRow) → row_at shelves place ≡ o → IsSome (row_at shelves place) → length (rows_at shelves (place ∷ places)) ≡ length (place ∷ places)
    by rest None is some = cc (rw is at some)
    by rest (Some stored) is some = rw is (omega (arith, rest))

-- the version of rows that are kept
pub version_kept : (shelves : Shelves) (kept : List KeptFact) (places edits : List Place) → IsKept shelves kept places edits → 1 ≤ length places
    → Some (version_of shelves.declared) ≡ version_at (rows_at shelves places)
version_kept shelves kept places edits right some =
    by (rows_at shelves places) (omega (arith, some, placed_length shelves places right.placed)) right.parts.site
  where
    by : (rows : List StoredRow) → 1 ≤ length rows → shelves.declared ≡ declared_of rows → Some (version_of shelves.declared) ≡ version_at rows
    by [] few same = absurd (omega (arith, few))
    by (stored ∷ rows) few same = ap (λ (ds : List Declared). Some (version_of ds)) same

-- the row at a place in a list of places
pub placed_at : (shelves : Shelves) (places : List Place) (i : ℕ) (place : Place) → ArePlaced shelves places → slice_get places i ≡ Some place
    → slice_get (rows_at shelves places) i ≡ row_at shelves place
placed_at shelves [] i place placed is = cc is
placed_at shelves (first ∷ places) i place placed is =
    by (λ k at. placed_at shelves places k place (λ n e lt. placed (suc n) e (omega (arith, lt))) at) (row_at shelves first) refl (placed 0 first (omega arith)) i is
  where
    by : ((k : ℕ) → slice_get places k ≡ Some place → slice_get (rows_at shelves places) k ≡ row_at shelves place) → (o : Option StoredRow) → row_at shelves first ≡ o → IsSome (row_at shelves first) → (k : ℕ) → slice_get (first ∷ places) k ≡ Some place
        → slice_get (rows_at shelves (first ∷ places)) k ≡ row_at shelves place
    by rest None none some k at = cc (rw none at some)
    by rest (Some stored) there some zero at = let same : first ≡ place = cc at in rw there (sym there ∙ ap (row_at shelves) same)
    by rest (Some stored) there some (suc k) at = rw there (rest k at)

-- the edit at a place of a book
pub edit_row : (shelves : Shelves) (kept : List KeptFact) (places edits : List Place) (i : ℕ) (place : Place) → IsKept shelves kept places edits → slice_get edits i ≡ Some place
    → slice_get (edits_of (rows_at shelves places)) i ≡ row_at shelves place
edit_row shelves kept places edits i place right is = ap (λ (rows : List StoredRow). slice_get rows i) (sym right.edit_rows) ∙ placed_at shelves edits i place right.edited is

pub no_edit : (shelves : Shelves) (kept : List KeptFact) (places edits : List Place) (i : ℕ) → IsKept shelves kept places edits → length edits ≤ i
    → None ≡ slice_get (edits_of (rows_at shelves places)) i
no_edit shelves kept places edits i right past =
    let long = placed_length shelves edits right.edited in
    sym (ap (λ (rows : List StoredRow). slice_get rows i) (sym right.edit_rows) ∙ slice_get_past (rows_at shelves edits) i (omega (arith, long, past)))

-- an item is there
pub none_within : {X : Type 0} (xs : List X) (i : ℕ) → i < length xs → None ≡ slice_get xs i → ⊥
none_within [] i lt none = omega (arith, lt)
none_within (x ∷ xs) zero lt none = cc none
none_within (x ∷ xs) (suc i) lt none = none_within xs i (omega (arith, lt)) none

-- whether the edit at a place touches the period at a place
pub touches_by : (rows : List StoredRow) (declared : List Declared) (kept : List KeptFact) (periods : List Period) (assays : List Assay) (e i : ℕ) (period : Period) (edit : StoredRow) (result : Bool)
    → AreOf rows declared kept periods assays → slice_get periods i ≡ Some period → slice_get (edits_of rows) e ≡ Some edit → result ≡ edit_touches (touches_in (version_of declared) declared) kept edit.effect period
    → result ≡ touches_at rows e i
touches_by rows declared kept periods assays e i period edit result right there at is =
    is ∙ ap (λ (ds : List Declared). edit_touches (touches_in (version_of ds) ds) kept edit.effect period) right.site
    ∙ ap₂ (λ (ks : List KeptFact) (o : Option StoredRow). row_touches (touching_of rows) ks period o) right.facts (sym at)
    ∙ sym (ap (λ (o : Option Period). option_map_or (λ (p : Period). row_touches (touching_of rows) (facts_of rows) p (slice_get (edits_of rows) e)) o false)
    (ap (λ (ps : List Period). slice_get ps i) (sym right.spans) ∙ there))
