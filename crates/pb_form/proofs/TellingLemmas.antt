-- The words of a row, one column at a time.
use Rattle.std.specs.Prelude.{map}
use Rattle.std.proofs.Common.{◌≡◌, ◌<◌, ◌≤◌, ◌+◌, ℕ, true, List, [], ◌∷◌, length, drop, get_or, refl, add-one}
use Rattle.std.proofs.lemmas.List.{drop_all}
use Rattle.std.proofs.Math.Seq.{drop-cons}
use Rattle.pb_form.specs.Columns.{Column}
use Rattle.pb_form.specs.Seen.{column_seen, holds_seen}
use Rattle.pb_form.specs.Telling.{agrees, has_word}
use Rattle.pb_form.specs.declared.column.Column as coded

-- a field with its column's word leaves it to the columns from there on
pub word_on : (columns : List coded.Column) (fields : List (List ℕ)) (i : ℕ) (d : coded.Column) → i < length columns → i < length fields
    → has_word (holds_seen (get_or columns i d).holds) (get_or fields i []) ≡ true
    → agrees (map column_seen (drop (i + 1) columns)) (drop (i + 1) fields) ≡ agrees (map column_seen (drop i columns)) (drop i fields)
word_on columns fields i d there has known = rw (add-one i, drop-cons columns i d there, drop-cons fields i [] has, known) refl

-- a row that goes no further agrees
pub no_more : (columns : List Column) (fields : List (List ℕ)) (i : ℕ) → length fields ≤ i → agrees columns (drop i fields) ≡ true
no_more columns fields i ended = rw (drop_all i fields ended) (by columns)
  where
    by : (columns : List Column) → agrees columns [] ≡ true
    by [] = refl
    by (column ∷ columns) = refl
