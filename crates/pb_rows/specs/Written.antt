-- Statement. Rows as they are written, and what a writer appends.
use Rattle.std.specs.Prelude.{◌≡◌, ◌==◌, ◌&&◌, ◌++◌, ℕ, List, [], ◌∷◌, length, Bool, false, not}
use Rattle.std.specs.Char.{is_ascii_lowercase}
use Rattle.std.specs.List.{flat_map, list_all}
use Rattle.csv.specs.Writing.{default_writer, row_text}

-- what a writer of rows holds: the text of the rows ended so far, and the fields of the row that is being filled
pub record Written : Type 0 where
  pub text : List ℕ
  pub row : List (List ℕ)

-- a row as `csv` writes it, followed by a line feed
abbrev pub line_of : List (List ℕ) → List ℕ
line_of fields = row_text default_writer fields

-- the text of several rows, one after the other
abbrev pub text_of_rows : List (List (List ℕ)) → List ℕ
text_of_rows rows = flat_map line_of rows

-- the row that is being filled gains a field, and the text stays the same
abbrev pub AddsField : Written → Written → List ℕ → Type 0
AddsField old new field = new ≡ record { text = old.text; row = old.row ++ field ∷ [] }

-- a text gains the line of a row
abbrev pub AddsLine : List ℕ → List ℕ → List (List ℕ) → Type 0
AddsLine old new row = new ≡ old ++ line_of row

-- the text gains the line of the row that was being filled, and the next row begins without fields
abbrev pub EndsRow : Written → Written → Type 0
EndsRow old new = new ≡ record { text = old.text ++ line_of old.row; row = [] }

-- one or more letters from `a` to `z`
abbrev pub is_word : List ℕ → Bool
is_word field = not (length field == 0) && list_all is_ascii_lowercase field

-- a row whose first field is such a word, as every row kind is
abbrev pub begins_with_word : List (List ℕ) → Bool
begins_with_word [] = false
begins_with_word (kind ∷ fields) = is_word kind
