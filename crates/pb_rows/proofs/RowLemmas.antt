-- The fields of a record, and the empty ones at its end.
use Rattle.std.proofs.Common.{◌≡◌, ◌<◌, ◌≤◌, ◌+◌, ◌-◌, ◌++◌, ◌∷◌, [], ◌∙◌, ℕ, List, length, take, get_or, true, false, arith, ap, sym, refl, inl, inr, length-append, Bool}
use Rattle.std.specs.Borrow.{Bor}
use Rattle.std.specs.Option.{unwrap_or}
use Rattle.std.specs.Prelude.{◌==◌, ◌&&◌, if◌then◌else◌, min, Option, None, Some, option_map}
use Rattle.std.proofs.lemmas.Bool.{cases_lt, ne_eqb}
use Rattle.std.proofs.lemmas.List.{length-take-le, take-take, take_all, take_more}
use Rattle.csv.specs.Records.{field_at}
use Rattle.csv.proofs.RecordFacts.{field-get, field-there}
use Rattle.pb_rows.specs.Records.{without_trailing_empty}

-- an empty field after the others is dropped
trailing_push_empty : (fields : List (List ℕ)) (field : List ℕ) → (length field == 0) ≡ true → without_trailing_empty (fields ++ field ∷ []) ≡ without_trailing_empty fields
trailing_push_empty [] field empty = rw empty refl
trailing_push_empty (first ∷ fields) field empty = rw (trailing_push_empty fields field empty) refl

-- a field that isn't empty keeps all before it
trailing_push_full : (fields : List (List ℕ)) (field : List ℕ) → (length field == 0) ≡ false → without_trailing_empty (fields ++ field ∷ []) ≡ fields ++ field ∷ []
trailing_push_full [] field full = rw full refl
trailing_push_full (first ∷ fields) field full =
    let more : (length (fields ++ field ∷ []) == 0) ≡ false = ne_eqb _ 0 (λ e. absurd (omega (arith, length-append fields (field ∷ []), e))) in
    rw (trailing_push_full fields field full) (by (length first == 0) (length (fields ++ field ∷ []) == 0) more)
  where
    by : (a b : Bool) → b ≡ false → (if◌then◌else◌ (a && b) [] (first ∷ fields ++ field ∷ [])) ≡ first ∷ fields ++ field ∷ []
    by true b e = rw e refl
    by false b e = refl

-- one field fewer, and the last one taken
take_last : (fields : List (List ℕ)) (n : ℕ) → 0 < n → n ≤ length fields → take n fields ≡ take (n - 1) fields ++ get_or fields (n - 1) [] ∷ []
take_last fields n some within =
    let at : n - 1 + 1 ≡ n = omega arith in
    ap (λ (k : ℕ). take k fields) (sym at) ∙ take_more fields (n - 1) [] (omega arith)

-- a step of the search for the last field that isn't empty
pub trailing_step : (fields : List (List ℕ)) (n : ℕ) → 0 < n → n ≤ length fields → (length (get_or fields (n - 1) []) == 0) ≡ true
    → without_trailing_empty (take (n - 1) fields) ≡ without_trailing_empty (take n fields)
trailing_step fields n some within empty =
    sym (ap without_trailing_empty (take_last fields n some within) ∙ trailing_push_empty (take (n - 1) fields) (get_or fields (n - 1) []) empty)

pub trailing_stop : (fields : List (List ℕ)) (n : ℕ) → 0 < n → n ≤ length fields → (length (get_or fields (n - 1) []) == 0) ≡ false
    → take n fields ≡ without_trailing_empty (take n fields)
trailing_stop fields n some within full =
    let last = take_last fields n some within in
    last ∙ sym (trailing_push_full (take (n - 1) fields) (get_or fields (n - 1) []) full) ∙ ap without_trailing_empty (sym last)

-- the field at a place within a record
pub field_here : (fields : List (List ℕ)) (i : ℕ) (found : Option (Bor (List ℕ))) (other : Bor (List ℕ)) → i < length fields
    → option_map (λ field. field.now) found ≡ field_at fields i → (unwrap_or found other).now ≡ get_or fields i []
field_here fields i (Some field) other lt is = sym (field-get fields i field.now (sym is))
field_here fields i None other lt is = absurd (field-there fields i lt (sym is))

-- as many of the fields up to the last one that isn't empty as there are places for
pub lent : (filled places : ℕ) (fields front : List (List ℕ)) → filled ≤ length fields → take filled fields ≡ front
    → take (min filled places) fields ≡ take places front
lent filled places fields front within is = elim (cases_lt filled places) [
  | inl few ↦
      let count : min filled places ≡ filled = omega (arith, few) in
      let long : length front ≡ filled = ap length (sym is) ∙ length-take-le filled fields within in
      rw count (is ∙ sym (take_all places front (omega (arith, few, long))))
  | inr many ↦
      let count : min filled places ≡ places = omega (arith, many) in
      rw count (sym (ap (take places) (sym is) ∙ take-take places filled fields (omega (arith, many))))
]
