-- Rows of the kinds that are skipped between blocks are skipped.
use Rattle.std.specs.List.{list_all, position_or_len}
use Rattle.std.specs.Prelude.{find, slice_get}
use Rattle.std.proofs.Common.{◌≡◌, ◌∙◌, ℕ, All, Bool, true, false, List, [], ◌∷◌, Some, drop, get_or, map, refl, sym}
use Rattle.std.proofs.lemmas.Bool.{and_from, and_parts}
use Rattle.std.proofs.lemmas.List.Elements.{All-cons, All-head, All-map, All-nil, All-tail}
use Rattle.std.proofs.lemmas.List.Folds.{find_at, list_any-from_Any}
use Rattle.std.proofs.lemmas.Option.{get_or_from_slice_get, slice_get_within}
use Rattle.pb_form.specs.Columns.{Column}
use Rattle.pb_form.specs.Holds.{Holds, Word}
use Rattle.pb_form.specs.OutputRows.{output_columns}
use Rattle.pb_form.specs.Telling.{agrees, has_word}
use Rattle.pb_form.specs.Texts.{texts_of}
use Rattle.pb_form.specs.Value.{Value}
use Rattle.pb_form.specs.Value as value
use Rattle.pb_form.specs.declared.output.OutputKind.{OutputKind}
use Rattle.pb_form.specs.declared.output.OutputKind.TheVariants as kind
use Rattle.pb_blocks.specs.Kinds.{is_passed_over, passed_kinds}
use Rattle.pb_report.specs.Row.{OutputRow, fields_of, row_of}
use Rattle.pb_readback.specs.Written.{HasKindWord, IsPassedRow, PassedRowsLaw, records_in}

-- any field may stand in a column, as far as words go
abbrev takes_any : Holds → Bool
takes_any (Word (word ∷ [])) = false
takes_any holds = true

any_word : (holds : Holds) (field : List ℕ) → takes_any holds ≡ true → has_word holds field ≡ true
any_word (Word (word ∷ [])) field any = cc any
any_word holds field any = refl

any_agree : (columns : List Column) (fields : List (List ℕ)) → list_all (λ column. takes_any column.holds) columns ≡ true → agrees columns fields ≡ true
any_agree [] fields any = refl
any_agree (column ∷ columns) [] any = refl
any_agree (column ∷ columns) (field ∷ fields) any =
    let (first, rest) = and_parts (takes_any column.holds) (list_all (λ column. takes_any column.holds) columns) any in
    and_from (has_word column.holds field) (agrees columns fields) (any_word column.holds field first) (any_agree columns fields rest)

-- a row has the word of its own kind
own_word : (kind : OutputKind) (values : List Value) → agrees (output_columns kind) (texts_of (output_columns kind) (value.Word 0 ∷ values)) ≡ true
own_word kind.Refused values = any_agree (drop 1 (output_columns kind.Refused)) (texts_of (drop 1 (output_columns kind.Refused)) values) refl
own_word it values = any_agree (drop 1 (output_columns it)) (texts_of (drop 1 (output_columns it)) values) refl

row_word : (kind : OutputKind) (values : List Value) → slice_get values 0 ≡ Some (value.Word 0) → agrees (output_columns kind) (texts_of (output_columns kind) values) ≡ true
row_word kind [] word = cc word
row_word kind (first ∷ values) word =
    let same : first ≡ value.Word 0 = cc word in
    rw same (own_word kind values)

is_passed : (row : OutputRow) → IsPassedRow row → is_passed_over (fields_of row) ≡ true
is_passed row is =
    list_any-from_Any (λ kind. agrees (output_columns kind) (fields_of row)) passed_kinds (is.kind.0, row.kind, is.kind.1, is.kind.2, row_word row.kind row.values is.word)

pub others_passed : PassedRowsLaw
others_passed [] all = refl
others_passed (row ∷ rows) all =
    and_from (is_passed_over (fields_of row)) (list_all is_passed_over (records_in rows)) (is_passed row (All-head IsPassedRow row rows all))
    (others_passed rows (All-tail IsPassedRow row rows all))

-- ---- which rows are of such kinds

-- a row whose kind is found among those that are skipped
pub one_passed : (row : OutputRow) → find (λ kind. agrees (output_columns kind) (fields_of (row_of row.kind []))) passed_kinds ≡ Some row.kind → HasKindWord row → IsPassedRow row
one_passed row found word =
    let test : OutputKind → Bool = λ kind. agrees (output_columns kind) (fields_of (row_of row.kind [])) in
    let place = position_or_len test passed_kinds in
    let at = sym (find_at test passed_kinds) ∙ found in
    record { kind = (place, slice_get_within passed_kinds place row.kind at, get_or_from_slice_get passed_kinds place row.kind row.kind at); word = word }

pub only_passed : (row : OutputRow) → IsPassedRow row → All IsPassedRow (row ∷ [])
only_passed row is = All-cons IsPassedRow row [] is (All-nil IsPassedRow)

-- a row, and a row for each of some items
pub list_passed : {A : Type 0} (first : OutputRow) → IsPassedRow first → (row : A → OutputRow) → ((x : A) → IsPassedRow (row x)) → (xs : List A) → All IsPassedRow (first ∷ map row xs)
list_passed first is row each xs = All-cons IsPassedRow first (map row xs) is (All-map IsPassedRow row xs (λ k d lt. each (get_or xs k d)))
