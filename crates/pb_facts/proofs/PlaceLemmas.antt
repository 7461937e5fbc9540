-- The maps of kept facts, as facts are looked up and added.
use Rattle.std.proofs.Common.{◌≡◌, ◌<◌, ◌≤◌, ◌+◌, ◌++◌, ◌∷◌, [], ◌∙◌, ℕ, ℤ, pos, List, Bool, true, false, Option, Some, None, length, get_or, arith, ap, sym, refl, inl, inr, subst, length-append}
use Rattle.std.specs.Prelude.{◌||◌, ◌&&◌, not, is_some, if◌then◌else◌, position}
use Rattle.std.specs.Cmp.{signed_Decides}
use Rattle.std.specs.Cmp.Lexicographic.{bytes_decides}
use Rattle.std.specs.HashMap.{get}
use Rattle.std.specs.List.{list_any}
use Rattle.std.proofs.lemmas.Bool.{and_parts, cases_Bool, cases_lt, leb-false, leb-true}
use Rattle.std.proofs.lemmas.List.Elements.{All-push}
use Rattle.std.proofs.lemmas.List.{get_or_default}
use Rattle.std.proofs.lemmas.List.Quantifiers.{all_pairs_push, position-Some}
use Rattle.indexmap.specs.IndexSet.{insert_key}
use Rattle.pb_limits.specs.Limits.{most_facts}
use Rattle.pb_rows.specs.Name.{same_name}
use Rattle.pb_facts.specs.Fact.{IsFactInRange, id_of, is_dip_on, is_fact_out_of_order, is_reading_on, is_too_long}
use Rattle.pb_facts.specs.Facts.{NoRepeats, are_facts_full, fact_fault_of, first_fact_fault, has_id, is_duplicate_fact, is_live_dip_on, is_live_reading_on, is_repeat, is_repeat_by_day, live_place_of}
use Rattle.pb_facts.specs.Places.{IsKept, IsKeyOf, Notes, SamePlaces, is_about, numbered_at, places_from, same_key, same_numbered}
use Rattle.pb_facts.specs.Shelf.{stream_or_tank}
use Rattle.pb_facts.specs.declared.fact.Fact.{Fact}
use Rattle.pb_facts.specs.declared.fact.Fact.TheVariants.{Reading, Transfer, Dip}
use Rattle.pb_facts.specs.declared.fact.FactFault.TheVariants.{Duplicate}
use Rattle.pb_facts.specs.declared.facts.KeptFact.{KeptFact}
use Rattle.pb_facts.specs.declared.places.Places.{Places}
use Rattle.pb_facts.proofs.NumberLemmas.{more_names, numbered_more, numbered_noted, numbered_same, numbers_noted}
use Rattle.pb_facts.proofs.TransferLemmas.{places_from-push}
use Rattle.pb_facts.proofs.PositionLemmas.{any_absent, is_some-position, position_at, position_none, position_push_new, position_push_other}

-- ---- a new fact that repeats none

pub or_none : (a b : Bool) → (a || b) ≡ false → (a ≡ false) × (b ≡ false)
or_none false false e = (refl, refl)
or_none false true e = cc e
or_none true b e = cc e

-- some item passes one of two tests
pub list_any-or : {X : Type 0} (p q : X → Bool) (xs : List X) → list_any (λ x. p x || q x) xs ≡ (list_any p xs || list_any q xs)
list_any-or p q [] = refl
list_any-or p q (x ∷ xs) = rw (list_any-or p q xs) (by (p x) (q x) (list_any p xs) (list_any q xs))
  where
    by : (a b c d : Bool) → ((a || b) || (c || d)) ≡ ((a || c) || (b || d))
    by true b c d = refl
    by false true true d = refl
    by false true false d = refl
    by false false c d = refl

-- a fact without a fault isn't a duplicate and isn't too long, and there is room for it
no_fault : (kept : List KeptFact) (fact : Fact) → fact_fault_of kept fact ≡ None → (is_duplicate_fact kept fact ≡ false) × (are_facts_full kept ≡ false) × (is_too_long fact ≡ false)
no_fault kept fact fine = by (is_duplicate_fact kept fact) (is_fact_out_of_order fact) (is_too_long fact) (are_facts_full kept) fine
  where
    by : (a b c d : Bool) → first_fact_fault a b c d ≡ None → (a ≡ false) × (d ≡ false) × (c ≡ false)
    by true b c d e = cc e
    by false true c d e = cc e
    by false false true d e = cc e
    by false false false true e = cc e
    by false false false false e = (refl, refl, refl)

-- so there is room for it, and no fact has its id
pub room_for : (kept : List KeptFact) (fact : Fact) → fact_fault_of kept fact ≡ None → length kept < most_facts
room_for kept fact fine = omega (arith, leb-false most_facts (length kept) (no_fault kept fact fine).1)

pub new_id : (kept : List KeptFact) (fact : Fact) → fact_fault_of kept fact ≡ None → list_any (has_id (id_of fact)) kept ≡ false
new_id kept fact fine = (or_none _ _ (sym (list_any-or (has_id (id_of fact)) (is_repeat_by_day fact) kept) ∙ (no_fault kept fact fine).0)).0

-- maps that give the same places
pub kept_same : (kept : List KeptFact) (names : List (List ℕ)) (old new : Places) → IsKept kept names old → SamePlaces old new → IsKept kept names new
kept_same kept names old new right same = record {
  readings = λ key. numbered_same names old.readings new.readings same.readings key ∙ right.readings key;
  numbers = λ key past. same.readings key ∙ right.numbers key past;
  dips = λ key. same.dips key ∙ right.dips key;
  transfers = λ key. same.transfers key ∙ right.transfers key;
  no_repeats = right.no_repeats;
  in_range = right.in_range;
  short = right.short;
  few = right.few;
}

-- ---- the maps after a new fact

-- an entry for a new fact keeps a map right
noted : (p : KeptFact → Bool) (kept : List KeptFact) (new : KeptFact) (place : ℕ) (old : Option ℕ) → old ≡ position p kept → (p new ≡ true → list_any p kept ≡ false)
    → place ≡ length kept → (if p new then Some place else old) ≡ position p (kept ++ new ∷ [])
noted p kept new place old right fresh at = elim (cases_Bool (p new)) [
  | inl passes ↦ rw (passes, at) (sym (position_push_new p kept new (fresh passes) passes))
  | inr fails ↦ rw fails (right ∙ sym (position_push_other p kept new fails))
]

-- no live reading has the stream and day of a new one
fresh_reading : (kept : List KeptFact) (fact : Fact) (stream : List ℕ) (day : ℤ) → list_any (is_repeat_by_day fact) kept ≡ false → is_reading_on stream day fact ≡ true
    → list_any (is_live_reading_on stream day) kept ≡ false
fresh_reading kept (Reading id s d grams variance) stream day none same =
    let parts = and_parts (same_name s stream) _ same in
    let e = (bytes_decides s stream).0 parts.0 in
    let f = (signed_Decides d day).0 parts.1 in
    subst (λ (q : List ℕ). list_any (is_live_reading_on q day) kept ≡ false) e (subst (λ (q : ℤ). list_any (is_live_reading_on s q) kept ≡ false) f none)
fresh_reading kept (Transfer id s first last grams variance) stream day none same = cc same
fresh_reading kept (Dip id t d mm density variance) stream day none same = cc same

fresh_dip : (kept : List KeptFact) (fact : Fact) (tank : List ℕ) (day : ℤ) → list_any (is_repeat_by_day fact) kept ≡ false → is_dip_on tank day fact ≡ true
    → list_any (is_live_dip_on tank day) kept ≡ false
fresh_dip kept (Reading id s d grams variance) tank day none same = cc same
fresh_dip kept (Transfer id s first last grams variance) tank day none same = cc same
fresh_dip kept (Dip id t d mm density variance) tank day none same =
    let parts = and_parts (same_name t tank) _ same in
    let e = (bytes_decides t tank).0 parts.0 in
    let f = (signed_Decides d day).0 parts.1 in
    subst (λ (q : List ℕ). list_any (is_live_dip_on q day) kept ≡ false) e (subst (λ (q : ℤ). list_any (is_live_dip_on t q) kept ≡ false) f none)

-- what holds of the kept facts holds with one more
pub kept_more : (kept : List KeptFact) (names all : List (List ℕ)) (old mid new : Places) (fact : Fact) (number place : ℕ) → IsKept kept names old → SamePlaces old mid → Notes mid new fact number place
    → all ≡ insert_key same_name names (stream_or_tank fact) → position (same_name (stream_or_tank fact)) all ≡ Some number
    → fact_fault_of kept fact ≡ None → IsFactInRange fact → place ≡ length kept → IsKept (kept ++ record { fact = fact; struck = false } ∷ []) all new
kept_more kept names all old mid new fact number place right same notes more numbered fine ranges at =
    let free = no_fault kept fact fine in
    let apart = or_none _ _ (sym (list_any-or (has_id (id_of fact)) (is_repeat_by_day fact) kept) ∙ free.0) in
    let item : KeptFact = record { fact = fact; struck = false } in
    record {
      readings = λ key. numbered_noted all fact number place mid.readings new.readings numbered notes.readings key
          ∙ noted (is_live_reading_on key.0 key.1) kept item place (numbered_at all mid.readings key) (before key) (fresh_reading kept fact key.0 key.1 apart.1) at;
      numbers = numbers_noted all fact number place mid.readings new.readings numbered notes.readings (λ key past. same.readings key ∙ right.numbers key (fewer key past));
      dips = λ key. notes.dips key
          ∙ noted (is_live_dip_on key.0 key.1) kept item place (get same_key mid.dips key) (same.dips key ∙ right.dips key) (fresh_dip kept fact key.0 key.1 apart.1) at;
      transfers = λ key. notes.transfers key
          ∙ ap (λ (places : List ℕ). places ++ (if is_about key fact then place ∷ [] else [])) (same.transfers key ∙ right.transfers key)
          ∙ placed key place at;
      no_repeats = all_pairs_push (λ (earlier later : KeptFact). is_repeat later.fact earlier ≡ false) kept item right.no_repeats (λ k d lt. any_absent (is_repeat fact) kept free.0 k d lt);
      in_range = All-push (λ (k : KeptFact). IsFactInRange k.fact) kept item right.in_range ranges;
      short = All-push (λ (k : KeptFact). is_too_long k.fact ≡ false) kept item right.short free.2;
      few = few kept item free.1;
    }
  where
    before : (key : List ℕ × ℤ) → numbered_at all mid.readings key ≡ position (is_live_reading_on key.0 key.1) kept
    before key =
        numbered_same all old.readings mid.readings same.readings key
        ∙ ap (λ (ns : List (List ℕ)). numbered_at ns old.readings key) more
        ∙ numbered_more names (stream_or_tank fact) old.readings right.numbers key
        ∙ right.readings key

    fewer : (key : ℕ × ℤ) → length all ≤ key.0 → length names ≤ key.0
    fewer key past = let long = (more_names names (stream_or_tank fact)).0 in omega (arith, long, rw more at past)

    placed : (key : List ℕ × ℤ) (place : ℕ) → place ≡ length kept
        → places_from (λ (k : KeptFact). is_about key k.fact) 0 kept ++ (if is_about key fact then place ∷ [] else [])
        ≡ places_from (λ (k : KeptFact). is_about key k.fact) 0 (kept ++ record { fact = fact; struck = false } ∷ [])
    placed key place at =
        let here : place ≡ 0 + length kept = omega (arith, at) in
        ap (λ (n : ℕ). places_from (λ (k : KeptFact). is_about key k.fact) 0 kept ++ (if is_about key fact then n ∷ [] else [])) here
        ∙ sym (places_from-push (λ (k : KeptFact). is_about key k.fact) 0 kept (record { fact = fact; struck = false }))

    few : (kept : List KeptFact) (item : KeptFact) → are_facts_full kept ≡ false → length (kept ++ item ∷ []) ≤ most_facts
    few kept item free = omega (arith, leb-false most_facts (length kept) free, length-append kept (item ∷ []))

-- ---- looking up

-- what stands at a place without a fact
abbrev pub no_fact : KeptFact
no_fact = record { fact = Reading [] [] (pos 0) (pos 0) (pos 0); struck = false }

and_false : (a : Bool) → (a && false) ≡ false
and_false true = refl
and_false false = refl

-- no fact has the id, so no live one has
pub no_place : (id : List ℕ) (kept : List KeptFact) → position (has_id id) kept ≡ None → live_place_of id kept ≡ None
no_place id kept none =
    let absent : list_any (has_id id) kept ≡ false = sym (is_some-position (has_id id) kept) ∙ ap is_some none in
    position_none (λ k. not k.struck && has_id id k) kept (λ k d lt. rw (any_absent (has_id id) kept absent k d lt) (and_false (not (get_or kept k d).struck)))

-- the fact with the id is live
pub live_place : (id : List ℕ) (kept : List KeptFact) (i : ℕ) (d : KeptFact) → position (has_id id) kept ≡ Some i → (get_or kept i d).struck ≡ false → live_place_of id kept ≡ Some i
live_place id kept i d at live =
    let first = position-Some (has_id id) kept i d at in
    position_at (λ k. not k.struck && has_id id k) kept i d first.0 (λ k lt. rw (first.2 k lt) (and_false (not (get_or kept k d).struck))) (rw (live, first.1) refl)

-- the fact with the id was struck, and no other has the id
pub struck_place : (id : List ℕ) (kept : List KeptFact) (i : ℕ) (d : KeptFact) → NoRepeats kept → position (has_id id) kept ≡ Some i → (get_or kept i d).struck ≡ true
    → live_place_of id kept ≡ None
struck_place id kept i d apart at struck =
    let first = position-Some (has_id id) kept i d at in
    let same : id_of (get_or kept i d).fact ≡ id = (bytes_decides _ id).0 first.1 in
    position_none (λ k. not k.struck && has_id id k) kept (λ k e lt. elim (cases_lt k i) [
      | inl before ↦ rw (get_or_default kept k e d lt, first.2 k before) (and_false (not (get_or kept k d).struck))
      | inr from ↦ elim (cases_lt i k) [
        | inl behind ↦ rw (get_or_default kept k e d lt, later k behind lt same) (and_false (not (get_or kept k d).struck))
        | inr to ↦
            let here : k ≡ i = omega arith in
            rw (here, get_or_default kept i e d first.0, struck) refl
      ]
    ])
  where
    later : (k : ℕ) → i < k → k < length kept → id_of (get_or kept i d).fact ≡ id → has_id id (get_or kept k d) ≡ false
    later k behind lt same =
        let other : has_id (id_of (get_or kept k d).fact) (get_or kept i d) ≡ false = (or_none _ _ (apart i k d behind lt)).0 in
        elim (cases_Bool (has_id id (get_or kept k d))) [
          | inl used ↦
              let e : id_of (get_or kept k d).fact ≡ id = (bytes_decides _ id).0 used in
              cc (sym other ∙ (bytes_decides (id_of (get_or kept i d).fact) (id_of (get_or kept k d).fact)).1 (same ∙ sym e))
          | inr free ↦ free
        ]

-- no fact is on the day of a transfer
pub none_live : (kept : List KeptFact) → list_any (λ k. not k.struck && false) kept ≡ false
none_live [] = refl
none_live (k ∷ kept) = rw (and_false (not k.struck)) (none_live kept)

-- ---- a reading by its key

-- the key has the number of the name
pub key_number : (names : List (List ℕ)) (key : ℕ × ℤ) (fact : Fact) → IsKeyOf names key fact → position (same_name (stream_or_tank fact)) names ≡ Some key.0
key_number names key (Reading id stream day grams variance) is = is.0
key_number names key (Transfer id stream first last grams variance) is = absurd is
key_number names key (Dip id tank day mm density variance) is = absurd is

-- the map has the key exactly when a live reading has the stream and day
pub day_taken : (kept : List KeptFact) (names : List (List ℕ)) (places : Places) (key : ℕ × ℤ) (fact : Fact) → IsKept kept names places → IsKeyOf names key fact
    → is_some (get same_numbered places.readings key) ≡ list_any (is_repeat_by_day fact) kept
day_taken kept names places key (Reading id stream day grams variance) right is =
    let here = rw is.0 at (right.readings (stream, day)) in
    ap (λ (d : ℤ). is_some (get same_numbered places.readings (key.0, d))) is.1 ∙ ap is_some here ∙ is_some-position (is_live_reading_on stream day) kept
day_taken kept names places key (Transfer id stream first last grams variance) right is = absurd is
day_taken kept names places key (Dip id tank day mm density variance) right is = absurd is

-- so what the first fault is
repeated : (kept : List KeptFact) (fact : Fact) → (list_any (has_id (id_of fact)) kept || list_any (is_repeat_by_day fact) kept) ≡ true → Some Duplicate ≡ fact_fault_of kept fact
repeated kept fact some =
    sym (ap (λ (b : Bool). first_fact_fault b (is_fact_out_of_order fact) (is_too_long fact) (are_facts_full kept)) (list_any-or (has_id (id_of fact)) (is_repeat_by_day fact) kept ∙ some))

pub id_repeated : (kept : List KeptFact) (fact : Fact) → list_any (has_id (id_of fact)) kept ≡ true → Some Duplicate ≡ fact_fault_of kept fact
id_repeated kept fact used = repeated kept fact (rw used refl)

pub day_repeated : (kept : List KeptFact) (fact : Fact) → list_any (is_repeat_by_day fact) kept ≡ true → Some Duplicate ≡ fact_fault_of kept fact
day_repeated kept fact taken = repeated kept fact (rw taken (either (list_any (has_id (id_of fact)) kept)))
  where
    either : (b : Bool) → (b || true) ≡ true
    either true = refl
    either false = refl

pub none_repeated : (kept : List KeptFact) (names : List (List ℕ)) (key : ℕ × ℤ) (fact : Fact) → IsKeyOf names key fact → list_any (has_id (id_of fact)) kept ≡ false
    → list_any (is_repeat_by_day fact) kept ≡ false → length kept < most_facts → None ≡ fact_fault_of kept fact
none_repeated kept names key (Reading id stream day grams variance) is new free room =
    let fact = Reading id stream day grams variance in
    let none : is_duplicate_fact kept fact ≡ false = list_any-or (has_id id) (is_repeat_by_day fact) kept ∙ rw (new, free) refl in
    let some : are_facts_full kept ≡ false = elim (cases_Bool (are_facts_full kept)) [
      | inl full ↦ absurd (omega (arith, room, leb-true most_facts (length kept) full))
      | inr left ↦ left
    ] in
    rw (none, some) refl
none_repeated kept names key (Transfer id stream first last grams variance) is new free room = absurd is
none_repeated kept names key (Dip id tank day mm density variance) is new free room = absurd is
