-- Records that write rows, and the plain rows that a book returns.
use Rattle.std.specs.Prelude.{filter_map, map, option_and_then, take}
use Rattle.std.specs.List.{cons_option}
use Rattle.std.specs.Option.{option_map}
use Rattle.std.proofs.Common.{◌≡◌, ◌∙◌, ◌<◌, ℕ, suc, List, [], ◌∷◌, ◌++◌, get_or, length, slice_get, Option, Some, None, refl, sym, ap, ap₂}
use Rattle.std.proofs.lemmas.List.{append-nil, map-append}
use Rattle.std.proofs.lemmas.List.Elements.{filter_map-append}
use Rattle.std.proofs.lemmas.Option.{slice_get-get_or}
use Rattle.std.proofs.Math.Seq.{take-suc}
use Rattle.pb_site.specs.declared.declared.Declared.{Declared}
use Rattle.pb_facts.specs.declared.fact.Fact.{Fact}
use Rattle.pb_facts.specs.declared.facts.KeptFact.{KeptFact}
use Rattle.pb_facts.specs.Facts.{live_at, live_fact}
use Rattle.pb_facts.specs.declared.assays.Assay.{Assay}
use Rattle.pb_kinds.specs.declared.rows.Effect.{Effect}
use Rattle.pb_kinds.specs.declared.rows.Effect.TheVariants.{Declares, Books, Assays}
use Rattle.pb_book.specs.declared.rows.Edited.{Edited}
use Rattle.pb_book.specs.declared.rows.Part.{Part}
use Rattle.pb_book.specs.declared.rows.Part.TheVariants as part
use Rattle.pb_periods.specs.declared.period.Period.{Period}
use Rattle.pb_book.specs.declared.rows.Place.{Place}
use Rattle.pb_kinds.specs.declared.rows.StoredRow.{StoredRow}
use Rattle.pb_book.specs.Kept.{closing, editing, effect_in, opening, row_at, rows_at, settled_at, settled_in, shelves_of}
use Rattle.pb_book.specs.Plain.{booked, settled, settled_rows}
use Rattle.pb_book.specs.Written.{AddsRow, AddsSome, WriteRows, WritesRow}
use Rattle.pb_book.proofs.KeptLemmas.{stored_at}

-- ---- one more record

write_more : (records : List (List (List ℕ))) (effects : List Effect) (fields : List (List ℕ)) (effect : Effect) → WriteRows records effects → WritesRow fields effect
    → WriteRows (records ++ fields ∷ []) (effects ++ effect ∷ [])
write_more [] [] fields effect so_far one = (one, tt)
write_more (f ∷ records) (e ∷ effects) fields effect so_far one = (so_far.0, write_more records effects fields effect so_far.1 one)
write_more [] (e ∷ effects) fields effect so_far one = absurd so_far
write_more (f ∷ records) [] fields effect so_far one = absurd so_far

-- records that write rows, with one more or with none
pub adds : (old new : List (List (List ℕ))) (effects : List Effect) (effect : Option Effect) → WriteRows old effects → AddsSome old new effect → WriteRows new (effects ++ cons_option effect [])
adds old new effects None so_far same = rw (same, append-nil effects) so_far
adds old new effects (Some effect) so_far more = by more
  where
    by : AddsRow old new effect → WriteRows new (effects ++ effect ∷ [])
    by (fields, one, is) = rw is (write_more old effects fields effect so_far one)

-- ---- the declarations, periods and assays of a book, by their places

settled_cons : (o : Option StoredRow) (rest : List StoredRow)
    → settled_rows (cons_option o rest) ≡ cons_option (option_and_then (λ (s : StoredRow). settled s.effect) o) (settled_rows rest)
settled_cons None rest = refl
settled_cons (Some stored) rest = refl

-- an item whose row is plain, and one whose row isn't
given : {X : Type 0} (f : X → Effect) (at : ℕ) → ((x : X) → settled (f x) ≡ Some (f x)) → (o : Option X)
    → option_and_then (λ (s : StoredRow). settled s.effect) (stored_at at (option_map f o)) ≡ option_map f o
given f at is None = refl
given f at is (Some x) = is x

none_given : {X : Type 0} (f : X → Effect) (at : ℕ) → ((x : X) → settled (f x) ≡ None) → (o : Option X)
    → option_and_then (λ (s : StoredRow). settled s.effect) (stored_at at (option_map f o)) ≡ None
none_given f at is None = refl
none_given f at is (Some x) = is x

settled_place : (declared : List Declared) (told : ℕ → Option Fact) (spans : List Period) (edited : List Edited) (assays : List Assay) (at : ℕ) (one : Part)
    → option_and_then (λ (s : StoredRow). settled s.effect) (stored_at at (effect_in (shelves_of declared told spans edited assays) one)) ≡ settled_in declared spans assays one
settled_place declared told spans edited assays at (part.Declared i) = given (λ (d : Declared). Declares d) at (λ d. refl) (slice_get declared i)
settled_place declared told spans edited assays at (part.Opened i) = given opening at (λ p. refl) (slice_get spans i)
settled_place declared told spans edited assays at (part.Booked i late) = none_given (λ (f : Fact). Books f late) at (λ f. refl) (told i)
settled_place declared told spans edited assays at (part.Edited i) = none_given editing at (λ e. refl) (slice_get edited i)
settled_place declared told spans edited assays at (part.Closed i) = none_given closing at (λ p. refl) (slice_get spans i)
settled_place declared told spans edited assays at (part.Assayed i) = given (λ (a : Assay). Assays a) at (λ a. refl) (slice_get assays i)

pub settled_places : (declared : List Declared) (told : ℕ → Option Fact) (spans : List Period) (edited : List Edited) (assays : List Assay) (places : List Place)
    → settled_rows (rows_at (shelves_of declared told spans edited assays) places) ≡ settled_at declared spans assays places
settled_places declared told spans edited assays [] = refl
settled_places declared told spans edited assays (place ∷ places) =
    settled_cons (row_at (shelves_of declared told spans edited assays) place) (rows_at (shelves_of declared told spans edited assays) places)
    ∙ ap₂ cons_option (settled_place declared told spans edited assays place.at place.part) (settled_places declared told spans edited assays places)

-- ---- one more of several

-- what a list gives up to one more place
take_more : {X Y : Type 0} (f : X → Option Y) (xs : List X) (i : ℕ) (d : X) → i < length xs → filter_map f (take (suc i) xs) ≡ filter_map f (take i xs) ++ cons_option (f (get_or xs i d)) []
take_more f xs i d lt = ap (filter_map f) (take-suc xs i d lt) ∙ filter_map-append f (take i xs) (get_or xs i d ∷ [])

-- live facts, with the one at one more place
pub live_more : (kept : List KeptFact) (i : ℕ) (d : KeptFact) → i < length kept
    → map booked (filter_map live_fact (take (suc i) kept)) ≡ map booked (filter_map live_fact (take i kept)) ++ cons_option (option_map booked (live_at kept i)) []
live_more kept i d lt =
    ap (map booked) (take_more live_fact kept i d lt)
    ∙ map-append booked (filter_map live_fact (take i kept)) (cons_option (live_fact (get_or kept i d)) [])
    ∙ ap (λ (xs : List Effect). map booked (filter_map live_fact (take i kept)) ++ xs) (one (live_fact (get_or kept i d)))
    ∙ ap (λ (o : Option KeptFact). map booked (filter_map live_fact (take i kept)) ++ cons_option (option_map booked (option_and_then live_fact o)) []) (sym (slice_get-get_or kept i d lt))
  where
    one : (o : Option Fact) → map booked (cons_option o []) ≡ cons_option (option_map booked o) []
    one None = refl
    one (Some f) = refl

pub settled_more : (declared : List Declared) (periods : List Period) (assays : List Assay) (places : List Place) (i : ℕ) (d : Place) → i < length places
    → settled_at declared periods assays (take (suc i) places) ≡ settled_at declared periods assays (take i places) ++ cons_option (settled_in declared periods assays (get_or places i d).part) []
settled_more declared periods assays places i d lt = take_more (λ (place : Place). settled_in declared periods assays place.part) places i d lt
