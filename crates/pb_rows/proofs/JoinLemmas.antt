-- A row that needs no quotes is its fields separated by commas.
use Rattle.std.proofs.Common.{◌≡◌, ◌∙◌, ◌<◌, ◌≤◌, ◌+◌, ◌∷◌, ◌++◌, [], ℕ, List, Bool, true, false, None, length, take, drop, get_or, ap, sym, refl, inl, inr, arith, append_assoc, append-nil}
use Rattle.std.specs.Prelude.{◌==◌, ◌-◌, Option, Some, is_some}
use Rattle.std.specs.List.{list_any}
use Rattle.std.proofs.lemmas.Bool.{cases_Bool, ne_eqb, or_parts}
use Rattle.std.proofs.lemmas.List.{get_or_default, take-append-drop, take_all}
use Rattle.std.proofs.lemmas.List.Folds.{list_any-append, list_any_at, list_any_none}
use Rattle.std.proofs.Math.Seq.{take-append_seam}
use Rattle.csv.specs.Records.{cut_from}
use Rattle.csv.specs.Writing.{default_writer, field_text, fields_text, is_blank, needs_byte, needs_quotes, next_sep, row_body}
use Rattle.csv.proofs.WriteFacts.{row-step}
use Rattle.memchr.specs.Find.{IsFirstByte, is_byte, is_byte3}
use Rattle.pb_rows.specs.Written.{line_of}

-- ---- no byte calls for quotes

-- a byte that is none of these four
plain_byte : (b : ℕ) → ¬ (is_byte3 44 34 10 b ≡ true) → ¬ (is_byte 13 b ≡ true) → needs_byte default_writer b ≡ false
plain_byte b three one =
    let comma : (b == 44) ≡ false = other (b == 44) (λ is. three (rw is refl)) in
    let quote : (b == 34) ≡ false = other (b == 34) (λ is. three (rw (comma, is) refl)) in
    let feed : (b == 10) ≡ false = other (b == 10) (λ is. three (rw (comma, quote, is) refl)) in
    let return : (b == 13) ≡ false = other (b == 13) one in
    rw (comma, quote, feed, return) refl
  where
    other : (test : Bool) → ¬ (test ≡ true) → test ≡ false
    other true apart = absurd (apart refl)
    other false apart = refl

-- none is found among the bytes
plain_bytes : (bytes : List ℕ) → IsFirstByte (is_byte3 44 34 10) bytes None → IsFirstByte (is_byte 13) bytes None
    → list_any (needs_byte default_writer) bytes ≡ false
plain_bytes bytes three one =
    list_any_none (needs_byte default_writer) bytes (λ k d within.
    ap (needs_byte default_writer) (get_or_default bytes k d 0 within)
    ∙ plain_byte (get_or bytes k 0) (three k (omega arith) within) (one k (omega arith) within))

-- neither search finds one
pub plain_found : (bytes : List ℕ) (three one : Option ℕ) → is_some three ≡ false → is_some one ≡ false → IsFirstByte (is_byte3 44 34 10) bytes three
    → IsFirstByte (is_byte 13) bytes one → list_any (needs_byte default_writer) bytes ≡ false
plain_found bytes None None neither nor three one = plain_bytes bytes three one
plain_found bytes None (Some k) neither nor three one = cc nor
plain_found bytes (Some k) one neither nor three found = cc neither

-- nor in a part of them
plain_part : (test : ℕ → Bool) (n k : ℕ) (bytes : List ℕ) → list_any test bytes ≡ false → list_any test (take n (drop k bytes)) ≡ false
plain_part test n k bytes none =
    let behind : list_any test (drop k bytes) ≡ false = last_part (take k bytes) (drop k bytes) (ap (list_any test) (take-append-drop k bytes) ∙ none) in
    first_part (take n (drop k bytes)) (drop n (drop k bytes)) (ap (list_any test) (take-append-drop n (drop k bytes)) ∙ behind)
  where
    parts : (xs ys : List ℕ) → list_any test (xs ++ ys) ≡ false → (list_any test xs ≡ false) × (list_any test ys ≡ false)
    parts xs ys none = or_parts (list_any test xs) (list_any test ys) (sym (list_any-append test xs ys) ∙ none)

    first_part : (xs ys : List ℕ) → list_any test (xs ++ ys) ≡ false → list_any test xs ≡ false
    first_part xs ys none = (parts xs ys none).0

    last_part : (xs ys : List ℕ) → list_any test (xs ++ ys) ≡ false → list_any test ys ≡ false
    last_part xs ys none = (parts xs ys none).1

-- so no field does
pub plain_fields : (start : ℕ) (ends bytes : List ℕ) → list_any (needs_byte default_writer) bytes ≡ false
    → list_any (needs_quotes default_writer) (cut_from start ends bytes) ≡ false
unfolding cut_from
plain_fields start [] bytes none = refl
plain_fields start (end ∷ ends) bytes none =
    rw (plain_part (needs_byte default_writer) (end - start) start bytes none) (plain_fields end ends bytes none)

-- ---- fields that need no quotes, one after the other

-- such a field is written as it is
plain_text : (fields : List (List ℕ)) (i : ℕ) → i < length fields → list_any (needs_quotes default_writer) fields ≡ false
    → field_text default_writer (get_or fields i []) ≡ get_or fields i []
plain_text fields i within plain = elim (cases_Bool (needs_quotes default_writer (get_or fields i []))) [
  | inl needs ↦ cc (list_any_at (needs_quotes default_writer) fields i [] within needs, plain)
  | inr needs ↦ rw needs refl
]

-- the first field
pub first_joined : (old : List ℕ) (fields : List (List ℕ)) → 1 < length fields → list_any (needs_quotes default_writer) fields ≡ false
    → old ++ get_or fields 0 [] ≡ old ++ row_body default_writer (take 1 fields)
unfolding fields_text
first_joined old [] several plain = absurd (omega arith)
first_joined old (field ∷ fields) several plain =
    let same = plain_text (field ∷ fields) 0 (omega arith) plain in
    ap (λ (text : List ℕ). old ++ text) (sym (ap (λ (text : List ℕ). text ++ []) same ∙ append-nil field))

-- another one
pub next_joined : (old text : List ℕ) (fields : List (List ℕ)) (i : ℕ) → 1 ≤ i → i < length fields → list_any (needs_quotes default_writer) fields ≡ false
    → text ≡ old ++ row_body default_writer (take i fields)
    → (text ++ 44 ∷ []) ++ get_or fields i [] ≡ old ++ row_body default_writer (take (i + 1) fields)
next_joined old text fields i some within plain so_far =
    let field = get_or fields i [] in
    let body = row_body default_writer (take i fields) in
    let comma : next_sep default_writer i ≡ 44 ∷ [] = rw (ne_eqb i 0 (λ none. absurd (omega arith))) refl in
    let step : row_body default_writer (take (i + 1) fields) ≡ body ++ (44 ∷ field) =
    row-step default_writer fields i within ∙ ap (λ (more : List ℕ). body ++ more) (rw (comma, plain_text fields i within plain) refl) in
    append_assoc text (44 ∷ []) field ∙ ap (λ (front : List ℕ). front ++ (44 ∷ field)) so_far ∙ append_assoc old body (44 ∷ field)
    ∙ ap (λ (line : List ℕ). old ++ line) (sym step)

-- all of them, and the line feed
pub all_joined : (old text : List ℕ) (fields : List (List ℕ)) (i : ℕ) → 1 < length fields → length fields ≤ i
    → text ≡ old ++ row_body default_writer (take i fields) → text ++ 10 ∷ [] ≡ old ++ line_of fields
unfolding is_blank
all_joined old text [] i several ended so_far = absurd (omega arith)
all_joined old text (field ∷ []) i several ended so_far = absurd (omega arith)
all_joined old text (field ∷ next ∷ fields) i several ended so_far =
    let body = row_body default_writer (field ∷ next ∷ fields) in
    let all : take i (field ∷ next ∷ fields) ≡ field ∷ next ∷ fields = take_all i (field ∷ next ∷ fields) ended in
    ap (λ (front : List ℕ). front ++ 10 ∷ []) (so_far ∙ ap (λ (row : List (List ℕ)). old ++ row_body default_writer row) all)
    ∙ append_assoc old body (10 ∷ [])

-- ---- what was written when memory ran out

-- the text begins as before
pub begins_as : (old more text : List ℕ) → text ≡ old ++ more → take (length old) text ≡ old
begins_as old more text is = ap (take (length old)) is ∙ take-append_seam old more
