-- A map by the numbers of names, looked up by names.
use Rattle.std.proofs.Common.{◌≡◌, ◌≤◌, ◌+◌, ◌∷◌, [], ◌∙◌, ℕ, ℤ, List, Bool, true, false, Option, Some, None, length, get_or, slice_get, arith, ap, cond, sym, refl, inl, inr, subst, length-append}
use Rattle.std.specs.Prelude.{◌&&◌, nat_eq, nat_lt, is_some, if◌then◌else◌, position, option_and_then}
use Rattle.std.specs.Cmp.Lexicographic.{bytes_decides}
use Rattle.std.specs.HashMap.{HashMap, get}
use Rattle.std.specs.List.{list_any, position_or_len}
use Rattle.std.specs.Ordering.{int_eq}
use Rattle.std.proofs.lemmas.Bool.{cases_Bool, eq-eqb, eqb-true}
use Rattle.std.proofs.lemmas.List.Quantifiers.{position-Some}
use Rattle.std.proofs.lemmas.Option.{slice_get-get_or}
use Rattle.std.proofs.lemmas.List.Sums.{position_or_len_is}
use Rattle.indexmap.specs.IndexSet.{insert_key}
use Rattle.pb_rows.specs.Name.{same_name}
use Rattle.pb_facts.specs.Fact.{is_reading_on}
use Rattle.pb_facts.specs.Places.{is_reading_numbered, numbered_at, same_numbered}
use Rattle.pb_facts.specs.Shelf.{stream_or_tank}
use Rattle.pb_facts.specs.declared.fact.Fact.{Fact}
use Rattle.pb_facts.specs.declared.fact.Fact.TheVariants.{Reading, Transfer, Dip}
use Rattle.pb_facts.proofs.PositionLemmas.{any_absent, is_some-position, position_none, position_push_new, position_push_other}

-- ---- the numbers of names

-- the number that a name has once it is inserted
pub position_inserted : (names : List (List ℕ)) (name : List ℕ) → position (same_name name) (insert_key same_name names name) ≡ Some (position_or_len (same_name name) names)
position_inserted names name = elim (cases_Bool (list_any (same_name name) names)) [
  | inl there ↦ rw there (some (nat_lt (position_or_len (same_name name) names) (length names)) (position_or_len (same_name name) names) (is_some-position (same_name name) names ∙ there))
  | inr new ↦
      let end : position_or_len (same_name name) names ≡ length names =
      position_or_len_is (same_name name) names (length names) name (omega arith) (λ k lt. any_absent (same_name name) names new k name lt) (λ past. absurd (omega (arith, past))) in
      rw new (position_push_new (same_name name) names name new ((bytes_decides name name).1 refl) ∙ ap Some (sym end))
]
  where
    some : (b : Bool) (n : ℕ) → is_some (cond b (Some n) None) ≡ true → cond b (Some n) None ≡ Some n
    some true n is = refl
    some false n is = cc is

-- a name that has a number is there
pub known_name : (names : List (List ℕ)) (name : List ℕ) (number : ℕ) → position (same_name name) names ≡ Some number → (insert_key same_name names name ≡ names) × (slice_get names number ≡ Some name)
known_name names name number at =
    let there : list_any (same_name name) names ≡ true = sym (is_some-position (same_name name) names) ∙ ap is_some at in
    let found = position-Some (same_name name) names number [] at in
    let same : name ≡ get_or names number [] = (bytes_decides name _).0 found.1 in
    (rw there refl, slice_get-get_or names number [] found.0 ∙ ap Some (sym same))

-- there are as many names once one is inserted, or one more
pub more_names : (names : List (List ℕ)) (name : List ℕ) → (length names ≤ length (insert_key same_name names name)) × (length (insert_key same_name names name) ≤ length names + 1)
more_names names name = elim (cases_Bool (list_any (same_name name) names)) [
  | inl there ↦ rw there (omega arith, omega arith)
  | inr new ↦ rw new (let long = length-append names (name ∷ []) in (omega (arith, long), omega (arith, long)))
]

-- two names have two numbers
apart_numbers : (names : List (List ℕ)) (one other : List ℕ) (m n : ℕ) → position (same_name one) names ≡ Some m → position (same_name other) names ≡ Some n → same_name one other ≡ false
    → nat_eq m n ≡ false
apart_numbers names one other m n at at_other apart = elim (cases_Bool (nat_eq m n)) [
  | inr differ ↦ differ
  | inl same ↦
      let first = (bytes_decides one _).0 (position-Some (same_name one) names m [] at).1 in
      let second = (bytes_decides other _).0 (position-Some (same_name other) names n [] at_other).1 in
      cc (sym apart ∙ (bytes_decides one other).1 (rw (eqb-true m n same) at first ∙ sym second))
]

-- ---- a map that changes at one number

-- two maps with the same entries
pub numbered_same : {S : Type 0} (names : List (List ℕ)) (old new : HashMap (ℕ × ℤ) ℕ S) → ((q : ℕ × ℤ) → get same_numbered new q ≡ get same_numbered old q)
    → (key : List ℕ × ℤ) → numbered_at names new key ≡ numbered_at names old key
numbered_same names old new same key = by (position (same_name key.0) names)
  where
    by : (p : Option ℕ) → option_and_then (λ (n : ℕ). get same_numbered new (n, key.1)) p ≡ option_and_then (λ (n : ℕ). get same_numbered old (n, key.1)) p
    by None = refl
    by (Some n) = same (n, key.1)

-- what the map then has for names
numbered_set : {S : Type 0} (names : List (List ℕ)) (name : List ℕ) (number : ℕ) (old new : HashMap (ℕ × ℤ) ℕ S) (here : ℤ → Bool) (value : Option ℕ) → position (same_name name) names ≡ Some number
    → ((q : ℕ × ℤ) → get same_numbered new q ≡ (if nat_eq number q.0 && here q.1 then value else get same_numbered old q))
    → (key : List ℕ × ℤ) → numbered_at names new key ≡ (if same_name name key.0 && here key.1 then value else numbered_at names old key)
numbered_set names name number old new here value at set key = elim (cases_Bool (same_name name key.0)) [
  | inl same ↦
      let e : name ≡ key.0 = (bytes_decides name key.0).0 same in
      let there : position (same_name key.0) names ≡ Some number = subst (λ (q : List ℕ). position (same_name q) names ≡ Some number) e at in
      let is : get same_numbered new (number, key.1) ≡ (if here key.1 then value else get same_numbered old (number, key.1)) =
      set (number, key.1) ∙ ap (λ (b : Bool). if b && here key.1 then value else get same_numbered old (number, key.1)) (eq-eqb number number refl) in
      rw (same, there) is
  | inr other ↦ rw other (by other (position (same_name key.0) names) refl)
]
  where
    by : same_name name key.0 ≡ false → (p : Option ℕ) → position (same_name key.0) names ≡ p
        → option_and_then (λ (n : ℕ). get same_numbered new (n, key.1)) p ≡ option_and_then (λ (n : ℕ). get same_numbered old (n, key.1)) p
    by other None is = refl
    by other (Some n) is =
        set (n, key.1) ∙ ap (λ (b : Bool). if b && here key.1 then value else get same_numbered old (n, key.1)) (apart_numbers names name key.0 number n at is other)

-- ---- facts that are noted and forgotten

-- one more name
pub numbered_more : {S : Type 0} (names : List (List ℕ)) (name : List ℕ) (map : HashMap (ℕ × ℤ) ℕ S) → ((q : ℕ × ℤ) → length names ≤ q.0 → get same_numbered map q ≡ None)
    → (key : List ℕ × ℤ) → numbered_at (insert_key same_name names name) map key ≡ numbered_at names map key
numbered_more names name map none key = elim (cases_Bool (list_any (same_name name) names)) [
  | inl there ↦ rw there refl
  | inr new ↦ rw new (elim (cases_Bool (same_name key.0 name)) [
    | inl same ↦
        let e : key.0 ≡ name = (bytes_decides key.0 name).0 same in
        let absent : list_any (same_name key.0) names ≡ false = subst (λ (q : List ℕ). list_any (same_name q) names ≡ false) (sym e) new in
        let before : position (same_name key.0) names ≡ None = position_none (same_name key.0) names (λ k d lt. any_absent (same_name key.0) names absent k d lt) in
        rw (position_push_new (same_name key.0) names name absent same, before) (none (length names, key.1) (omega arith))
    | inr other ↦ rw (position_push_other (same_name key.0) names name other) refl
  ])
]

-- the place of a new fact
pub numbered_noted : {S : Type 0} (names : List (List ℕ)) (fact : Fact) (number place : ℕ) (old new : HashMap (ℕ × ℤ) ℕ S) → position (same_name (stream_or_tank fact)) names ≡ Some number
    → ((q : ℕ × ℤ) → get same_numbered new q ≡ (if is_reading_numbered (Some number) q fact then Some place else get same_numbered old q))
    → (key : List ℕ × ℤ) → numbered_at names new key ≡ (if is_reading_on key.0 key.1 fact then Some place else numbered_at names old key)
numbered_noted names (Reading id stream day grams variance) number place old new at noted key =
    numbered_set names stream number old new (λ (q : ℤ). int_eq day q) (Some place) at noted key
numbered_noted names (Transfer id stream first last grams variance) number place old new at noted key = numbered_same names old new noted key
numbered_noted names (Dip id tank day mm density variance) number place old new at noted key = numbered_same names old new noted key

-- it has a number that names have
pub numbers_noted : {S : Type 0} (names : List (List ℕ)) (fact : Fact) (number place : ℕ) (old new : HashMap (ℕ × ℤ) ℕ S) → position (same_name (stream_or_tank fact)) names ≡ Some number
    → ((q : ℕ × ℤ) → get same_numbered new q ≡ (if is_reading_numbered (Some number) q fact then Some place else get same_numbered old q))
    → ((q : ℕ × ℤ) → length names ≤ q.0 → get same_numbered old q ≡ None) → (q : ℕ × ℤ) → length names ≤ q.0 → get same_numbered new q ≡ None
numbers_noted names (Reading id stream day grams variance) number place old new at noted none q past =
    let within = (position-Some (same_name stream) names number [] at).0 in
    let apart : nat_eq number q.0 ≡ false = elim (cases_Bool (nat_eq number q.0)) [
      | inl same ↦ absurd (omega (arith, within, past, eqb-true number q.0 same))
      | inr differ ↦ differ
    ] in
    noted q ∙ ap (λ (b : Bool). if b && int_eq day q.1 then Some place else get same_numbered old q) apart ∙ none q past
numbers_noted names (Transfer id stream first last grams variance) number place old new at noted none q past = noted q ∙ none q past
numbers_noted names (Dip id tank day mm density variance) number place old new at noted none q past = noted q ∙ none q past

-- the place of a fact that is struck
pub numbered_forgotten : {S : Type 0} (names : List (List ℕ)) (fact : Fact) (number : Option ℕ) (old new : HashMap (ℕ × ℤ) ℕ S) → position (same_name (stream_or_tank fact)) names ≡ number
    → ((q : ℕ × ℤ) → get same_numbered new q ≡ (if is_reading_numbered number q fact then None else get same_numbered old q))
    → (key : List ℕ × ℤ) → numbered_at names new key ≡ (if is_reading_on key.0 key.1 fact then None else numbered_at names old key)
numbered_forgotten names (Reading id stream day grams variance) (Some number) old new at forgets key =
    numbered_set names stream number old new (λ (q : ℤ). int_eq day q) None at forgets key
numbered_forgotten names (Reading id stream day grams variance) None old new at forgets key = numbered_same names old new forgets key ∙ elim (cases_Bool (same_name stream key.0)) [
  | inl same ↦
      let e : stream ≡ key.0 = (bytes_decides stream key.0).0 same in
      let nowhere : position (same_name key.0) names ≡ None = subst (λ (q : List ℕ). position (same_name q) names ≡ None) e at in
      rw (same, nowhere) (sym (either (int_eq day key.1) None))
  | inr other ↦ rw other refl
]
  where
    either : (b : Bool) (o : Option ℕ) → (if b then o else o) ≡ o
    either true o = refl
    either false o = refl
numbered_forgotten names (Transfer id stream first last grams variance) number old new at forgets key = numbered_same names old new forgets key
numbered_forgotten names (Dip id tank day mm density variance) number old new at forgets key = numbered_same names old new forgets key

pub numbers_forgotten : {S : Type 0} (names : List (List ℕ)) (fact : Fact) (number : Option ℕ) (old new : HashMap (ℕ × ℤ) ℕ S)
    → ((q : ℕ × ℤ) → get same_numbered new q ≡ (if is_reading_numbered number q fact then None else get same_numbered old q))
    → ((q : ℕ × ℤ) → length names ≤ q.0 → get same_numbered old q ≡ None) → (q : ℕ × ℤ) → length names ≤ q.0 → get same_numbered new q ≡ None
numbers_forgotten names fact number old new forgets none q past =
    forgets q ∙ elim (cases_Bool (is_reading_numbered number q fact)) [ inl here ↦ rw here refl | inr other ↦ rw other (none q past) ]
