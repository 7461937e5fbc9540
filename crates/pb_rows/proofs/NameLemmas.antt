-- How names and reasons lie in their bytes, and that they are texts.
use Rattle.std.proofs.Common.{rules, Bool, ◌∷◌, [], ◌<◌, zero, suc, ◌≡◌, ◌≤◌, ◌+◌, ◌-◌, ◌++◌, ◌∙◌, ℕ, List, ap, ap₂, sym, length, take, drop, get_or, replicate, true, arith, length-append, length-drop}
use Rattle.std.specs.Prelude.{IsOk, MatchResult, Result, Ok, Err, IsUtf8, nat_eq, not, slice_index, ◌==◌}
use Rattle.std.specs.Cmp.Lexicographic.{bytes_decides, pointwise}
use Rattle.std.specs.List.{list_all}
use Rattle.std.proofs.lemmas.Bool.Decides.{nat_tests, same_from_decides}
use Rattle.std.proofs.lemmas.Str.{IsUtf8-from_ascii}
use Rattle.std.proofs.lemmas.Bool.{and_parts, leb-true}
use Rattle.std.proofs.lemmas.List.{drop-drop, drop-replicate, drop-set-lt, length-replicate, length-set, take_all, take_more, take_more_set}
use Rattle.std.proofs.Math.ListN.{set}
use Rattle.std.proofs.Math.Seq.{drop-append_seam, take-append_seam}
use Rattle.pb_rows.specs.Name.{is_name, is_name_byte}
use Rattle.pb_rows.specs.Reason.{is_reason, is_reason_byte, most_reason}
use Rattle.pb_rows.specs.Padded.{IsPadded, padded_bytes}
use Rattle.pb_rows.specs.Forms.{has_name_length, has_reason_length}

-- a name has at most 32 bytes
pub name_fits : (field : List ℕ) → has_name_length field ≡ true → length field ≤ 32
name_fits field long = leb-true _ _ (and_parts (not (length field == 0)) _ long).1

-- a text written over the front of zeros
pub padded_copy : (is_form : List ℕ → Bool) (room : ℕ) (copied field : List ℕ) → copied ≡ field → is_form field ≡ true → length field ≤ room
    → IsPadded is_form room (length field) (copied ++ drop (length field) (replicate {A = ℕ} room 0))
padded_copy is_form room copied field same form fits =
    let zeros = replicate {A = ℕ} room 0 in
    rw same (record {
      long = omega (arith, fits, length-append field (drop (length field) zeros), length-drop (length field) zeros, length-replicate {A = ℕ} room 0);
      fits = fits;
      form = rw (take-append_seam field (drop (length field) zeros)) form;
      zeros = drop-append_seam field (drop (length field) zeros) ∙ drop-replicate (length field) room 0;
    })

-- how far a field was copied over the front of zeros
pub record IsCopied (room at : ℕ) (bytes field : List ℕ) : Type 0 where
  pub long : length bytes ≡ room
  pub front : take at bytes ≡ take at field
  pub zeros : drop at bytes ≡ replicate (room - at) 0

-- and one byte further
pub copied_more : (room at : ℕ) (bytes field : List ℕ) → at < room → at < length field → IsCopied room at bytes field
    → IsCopied room (at + 1) (set bytes at (get_or field at 0)) field
copied_more room at bytes field lt within copied =
    let byte = get_or field at 0 in
    record {
      long = length-set bytes at byte ∙ copied.long;
      front = take_more_set bytes at byte (omega (arith, copied.long)) ∙ ap (λ (xs : List ℕ). xs ++ byte ∷ []) copied.front ∙ sym (take_more field at 0 within);
      zeros = drop-set-lt (at + 1) bytes at byte (omega arith) ∙ behind;
    }
  where
    behind : drop (at + 1) bytes ≡ replicate (room - (at + 1)) 0
    behind = sym (drop-drop 1 at bytes) ∙ ap (drop 1) copied.zeros ∙ drop-replicate 1 (room - at) 0 ∙ ap (λ (n : ℕ). replicate {A = ℕ} n 0) (omega arith)

-- texts of one length are the same exactly when their arrays are
pub same_padded : (is_form : List ℕ → Bool) (room la lb : ℕ) (xs ys : List ℕ) → IsPadded is_form room la xs → IsPadded is_form room lb ys → la ≡ lb
    → pointwise nat_eq xs ys ≡ pointwise nat_eq (take la xs) (take lb ys)
same_padded is_form room la lb xs ys a b long = same_from_decides _ _ (parts, whole) (bytes_decides (take la xs) (take lb ys))
  where
    parts : pointwise nat_eq xs ys ≡ true → take la xs ≡ take lb ys
    parts e = ap₂ (λ (n : ℕ) (zs : List ℕ). take n zs) long ((bytes_decides xs ys).0 e)

    whole : take la xs ≡ take lb ys → pointwise nat_eq xs ys ≡ true
    whole same =
        let padded = ap (λ (text : List ℕ). text ++ replicate {A = ℕ} (room - length text) 0) same in
        (bytes_decides xs ys).1 (sym (padded_bytes is_form room la xs a) ∙ padded ∙ padded_bytes is_form room lb ys b)

-- a field that was copied whole
pub copied_all : (is_form : List ℕ → Bool) (room : ℕ) (bytes field : List ℕ) → length field ≤ room → is_form field ≡ true
    → IsCopied room (length field) bytes field → IsPadded is_form room (length field) bytes
copied_all is_form room bytes field fits form copied = record {
  long = copied.long;
  fits = fits;
  form = rw (copied.front, take_all (length field) field (omega arith)) form;
  zeros = copied.zeros;
}

-- a name is ASCII
name_ascii : (field : List ℕ) → list_all is_name_byte field ≡ true → (i : ℕ) → slice_index field i < 128
name_ascii [] bytes i = omega arith
name_ascii (b ∷ field) bytes zero =
    let parts = and_parts (is_name_byte b) _ bytes in byte_ascii b parts.0
  where
    byte_ascii : (c : ℕ) → is_name_byte c ≡ true → c < 128
    byte_ascii c form = grind (arith, nat_tests)
name_ascii (b ∷ field) bytes (suc i) = name_ascii field (and_parts (is_name_byte b) _ bytes).1 i

-- so it is a text
pub name_utf8 : (field : List ℕ) → is_name field ≡ true → IsUtf8 field
name_utf8 field named = IsUtf8-from_ascii field (name_ascii field (and_parts (has_name_length field) _ named).1)

-- a reason has at most 80 bytes
pub reason_fits : (field : List ℕ) → is_reason field ≡ true → length field ≤ most_reason
reason_fits field is =
    let long : has_reason_length field ≡ true = (and_parts _ _ is).0 in
    leb-true _ _ (and_parts (not (length field == 0)) _ long).1

-- a reason is ASCII
reason_ascii : (field : List ℕ) → list_all is_reason_byte field ≡ true → (i : ℕ) → slice_index field i < 128
reason_ascii [] bytes i = omega arith
reason_ascii (b ∷ field) bytes zero =
    let parts = and_parts (is_reason_byte b) _ bytes in byte_ascii b parts.0
  where
    byte_ascii : (c : ℕ) → is_reason_byte c ≡ true → c < 128
    byte_ascii c form = grind (arith, nat_tests)
reason_ascii (b ∷ field) bytes (suc i) = reason_ascii field (and_parts (is_reason_byte b) _ bytes).1 i

-- so it is a text
pub reason_utf8 : (field : List ℕ) → is_reason field ≡ true → IsUtf8 field
reason_utf8 field is = IsUtf8-from_ascii field (reason_ascii field (and_parts (has_reason_length field) _ is).1)

-- what is a text is read as one
pub reads_text : {T E : Type 0} (A : T → Type 0) (B : E → Type 0) (P : Type 0) (result : Result T E) → P → MatchResult result A (λ e. ¬ P × B e) → IsOk result
reads_text A B P (Ok text) p cases = search rules
reads_text A B P (Err e) p cases = absurd (cases.0 p)
