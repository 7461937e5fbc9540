-- The row that was stored last, and the periods that it takes out.
use Rattle.std.specs.Option.{option_map_or}
use Rattle.std.proofs.Common.{◌≡◌, ◌∙◌, ◌-◌, ℕ, List, [], ◌∷◌, ◌++◌, length, slice_get, Bool, false, Option, Some, None, refl, sym, ap, arith, length-append}
use Rattle.std.proofs.lemmas.Option.{slice_get-get_or}
use Rattle.std.proofs.Math.Seq.{get_or-append_seam}
use Rattle.pb_facts.specs.declared.facts.KeptFact.{KeptFact}
use Rattle.pb_site.specs.declared.declared.Declared.{Declared}
use Rattle.pb_site.specs.Site.{version_of}
use Rattle.pb_facts.specs.declared.assays.Assay.{Assay}
use Rattle.pb_kinds.specs.declared.rows.Effect.{Effect}
use Rattle.pb_periods.specs.declared.period.Period.{Period}
use Rattle.pb_book.specs.declared.rows.Place.{Place}
use Rattle.pb_kinds.specs.declared.rows.StoredRow.{StoredRow}
use Rattle.pb_book.specs.Kept.{AreOf, ArePlaced, Shelves, row_at, rows_at}
use Rattle.pb_book.specs.Rows.{facts_after, facts_of, periods_after, periods_of, with_row}
use Rattle.pb_book.specs.TakenOut.{last_row, row_takes_out, takes_out, touched_at, touching_of}
use Rattle.pb_periods.specs.Touching.{touches_in}
use Rattle.pb_book.proofs.EditLemmas.{placed_at, placed_length}
use Rattle.pb_book.proofs.KeptLemmas.{facts_more, periods_more_of}

-- ---- one more row

last_more : (rows : List StoredRow) (stored : StoredRow) → last_row (rows ++ stored ∷ []) ≡ Some stored
last_more rows stored =
    let long = length-append rows (stored ∷ []) in
    let last : length (rows ++ stored ∷ []) - 1 ≡ length rows = omega (arith, long) in
    rw last (slice_get-get_or (rows ++ stored ∷ []) (length rows) stored (omega (arith, long)) ∙ ap Some (get_or-append_seam rows stored [] stored))

pub touched_more : (rows : List StoredRow) (at : ℕ) (effect : Effect) (i : ℕ)
    → touched_at (with_row rows at effect) i ≡ option_map_or (takes_out (touching_of (with_row rows at effect)) (facts_after (facts_of rows) effect) effect) (slice_get (periods_after (periods_of rows) effect) i) false
touched_more rows at effect i =
    let stored : StoredRow = record { at = at; effect = effect } in
    rw (last_more rows stored, facts_more rows stored, periods_more_of rows stored) refl

pub touched_none : (i : ℕ) → touched_at [] i ≡ false
touched_none i = refl

-- ---- the last row

-- a list without a last item is empty
none_last : {X : Type 0} (xs : List X) → None ≡ slice_get xs (length xs - 1) → xs ≡ []
none_last [] none = refl
none_last (x ∷ xs) none = cc (none ∙ slice_get-get_or (x ∷ xs) (length (x ∷ xs) - 1) x (omega arith))

-- the last row of some places is that of the last place
pub row_last : (shelves : Shelves) (places : List Place) (place : Place) (result : Option StoredRow) → ArePlaced shelves places → slice_get places (length places - 1) ≡ Some place
    → result ≡ row_at shelves place → result ≡ last_row (rows_at shelves places)
row_last shelves places place result placed last is =
    is ∙ sym (rw (placed_length shelves places placed) (placed_at shelves places (length places - 1) place placed last))

pub no_row_last : (shelves : Shelves) (places : List Place) → None ≡ slice_get places (length places - 1) → None ≡ last_row (rows_at shelves places)
no_row_last shelves places none = rw (none_last places none) refl

-- ---- the periods that it takes out

pub touched_by : (rows : List StoredRow) (declared : List Declared) (kept : List KeptFact) (periods : List Period) (assays : List Assay) (i : ℕ) (period : Period) (row : StoredRow) (result : Bool)
    → AreOf rows declared kept periods assays → slice_get periods i ≡ Some period → Some row ≡ last_row rows → result ≡ takes_out (touches_in (version_of declared) declared) kept row.effect period → result ≡ touched_at rows i
touched_by rows declared kept periods assays i period row result right there last is = rw (← right.spans, there, ← last, ← right.facts, ← right.site) is

pub touched_by_none : (rows : List StoredRow) (i : ℕ) → None ≡ last_row rows → false ≡ touched_at rows i
touched_by_none rows i none = rw (← none) (by (slice_get (periods_of rows) i))
  where
    by : (p : Option Period) → false ≡ option_map_or (λ (period : Period). row_takes_out (touching_of rows) (facts_of rows) period None) p false
    by None = refl
    by (Some period) = refl
