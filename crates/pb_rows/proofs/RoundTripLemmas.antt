-- Rows that begin with a word read back from their text.
use Rattle.std.proofs.Common.{◌≡◌, ◌∷◌, [], ℕ, List, true, false, None, length, ap, sym, refl}
use Rattle.std.specs.Prelude.{◌==◌, not}
use Rattle.std.specs.Char.{is_ascii_lowercase}
use Rattle.std.specs.List.{list_all, list_any}
use Rattle.std.proofs.lemmas.Bool.{and_parts, ne_eqb}
use Rattle.csv.specs.Machine.{next_record}
use Rattle.csv.specs.Reading.{Reached, default_config, strip_bom}
use Rattle.csv.specs.Writing.{default_writer, needs_byte}
use Rattle.csv.specs.declared.parser.State.TheVariants as st
use Rattle.csv.proofs.RoundTrip.{read-write}
use Rattle.pb_rows.specs.Records.{records_of}
use Rattle.pb_rows.specs.Written.{begins_with_word, is_word, text_of_rows}
use Rattle.pb_rows.proofs.ReadLemmas.{all_reached}

-- a letter is none of these bytes
letter_is_not : (b c : ℕ) → is_ascii_lowercase b ≡ true → is_ascii_lowercase c ≡ false → (b == c) ≡ false
letter_is_not b c letter other = ne_eqb b c (λ e. cc (ap is_ascii_lowercase e, letter, other))

-- a letter needs no quotes
letter_plain : (b : ℕ) → is_ascii_lowercase b ≡ true → needs_byte default_writer b ≡ false
letter_plain b letter =
    rw (letter_is_not b 44 letter refl, letter_is_not b 34 letter refl, letter_is_not b 13 letter refl, letter_is_not b 10 letter refl) refl

word_plain : (field : List ℕ) → list_all is_ascii_lowercase field ≡ true → list_any (needs_byte default_writer) field ≡ false
word_plain [] letters = refl
word_plain (b ∷ bs) letters =
    let parts = and_parts (is_ascii_lowercase b) _ letters in
    rw (letter_plain b parts.0) (word_plain bs parts.1)

-- no byte order mark stands before a letter
letter_no_mark : (b : ℕ) (bytes : List ℕ) → is_ascii_lowercase b ≡ true → strip_bom (b ∷ bytes) ≡ b ∷ bytes
unfolding strip_bom
letter_no_mark b [] letter = refl
letter_no_mark b (c ∷ []) letter = refl
letter_no_mark b (c ∷ d ∷ bytes) letter = rw (letter_is_not b 0xEF letter refl) refl

-- nor before the text of rows that begin with a word
rows_no_mark : (rows : List (List (List ℕ))) → list_all begins_with_word rows ≡ true → strip_bom (text_of_rows rows) ≡ text_of_rows rows
unfolding strip_bom
rows_no_mark [] words = refl
rows_no_mark ([] ∷ rows) words = cc words
rows_no_mark (([] ∷ fields) ∷ rows) words = cc words
rows_no_mark (((b ∷ bs) ∷ fields) ∷ rows) words =
    let word : is_word (b ∷ bs) ≡ true = (and_parts (is_word (b ∷ bs)) _ words).0 in
    let letters = (and_parts (not (length (b ∷ bs) == 0)) (list_all is_ascii_lowercase (b ∷ bs)) word).1 in
    rw (word_plain (b ∷ bs) letters) (letter_no_mark b _ (and_parts (is_ascii_lowercase b) _ letters).0)

-- the reader reaches each row in turn
rows_reached : (rows : List (List (List ℕ))) → list_all begins_with_word rows ≡ true → Reached default_config st.StartRecord (text_of_rows rows) rows st.StartRecord []
unfolding Reached
rows_reached [] words = (refl, refl)
rows_reached ([] ∷ rows) words = cc words
rows_reached ((kind ∷ fields) ∷ rows) words =
    let parts = and_parts (is_word kind) _ words in
    ((kind ∷ fields, st.StartRecord, text_of_rows rows), read-write (kind ∷ fields) (text_of_rows rows), refl, rows_reached rows parts.1)

no_record : next_record default_config st.StartRecord [] [] [] ≡ None
unfolding next_record
no_record = refl

pub rows_read_back : (rows : List (List (List ℕ))) → list_all begins_with_word rows ≡ true → records_of (text_of_rows rows) ≡ rows
rows_read_back rows words =
    let plain = rows_no_mark rows words in
    sym (all_reached (text_of_rows rows) [] st.StartRecord rows (rw plain (rows_reached rows words)) no_record)
