-- Rows written one after the other: what is written joined to what is left is the whole.
use Rattle.std.proofs.Common.{◌≡◌, ◌∙◌, ℕ, ◌+◌, ◌<◌, List, [], ◌∷◌, ◌++◌, length, get_or, drop, slice_get, Some, refl, sym, subst, ap, append_assoc, append-nil, OnOk, Result, Ok, Err}
use Rattle.std.proofs.lemmas.Grind.{flat_map-append}
use Rattle.std.proofs.lemmas.Option.{slice_get_within, get_or_from_slice_get}
use Rattle.pb_fixed.proofs.Lists.{drop_next}
use Rattle.pb_report.specs.declared.form.Form.{Form}
use Rattle.pb_report.specs.Row.{OutputRow}
use Rattle.pb_report.specs.Form.{AppendsRows, row_text, text_in}
use Rattle.pb_report.specs.Output.{AddsRows, IsUnderWay, OutputText}
use Rattle.pb_report.specs.Rows.{rows_with}

-- some of the rows that are left are written
pub more_rows : (start old new : OutputText) (rows some left : List OutputRow) → IsUnderWay start old rows (some ++ left) → AddsRows old new some → IsUnderWay start new rows left
more_rows start old new rows some left way adds = rw adds (record {
  form = way.form;
  text = way.text ∙ ap (λ (t : List ℕ). old.text ++ t) (flat_map-append (row_text start.form) some left)
      ∙ sym (append_assoc old.text (text_in start.form some) (text_in start.form left))
      ∙ ap (λ (form : Form). (old.text ++ text_in form some) ++ text_in start.form left) (sym way.form);
})

-- nothing is left
pub all_rows : (start now : OutputText) (rows : List OutputRow) → IsUnderWay start now rows [] → AddsRows start now rows
all_rows start now rows way =
    let text : now.text ≡ start.text ++ text_in start.form rows = sym (way.text ∙ append-nil now.text) in
    λ i. record { form = way.form i; text = text i }

-- rows after rows
pub two_rows : (start middle end : OutputText) (first second : List OutputRow) → AddsRows start middle first → AddsRows middle end second → AddsRows start end (first ++ second)
two_rows start middle end first second adds more =
    all_rows start end (first ++ second)
    (more_rows start middle end (first ++ second) second []
    (more_rows start start middle (first ++ second) first (second ++ []) (record { form = refl; text = ap (λ (rows : List OutputRow). start.text ++ text_in start.form rows) (ap (λ (rows : List OutputRow). first ++ rows) (sym (append-nil second))) }) adds) more)

-- the rows of two lists from place i on
rows_from : {A B : Type 0} (row : ℕ → A → B → OutputRow) (xs : List A) (ys : List B) (i : ℕ) (d : A) (y : B) → i < length xs → slice_get ys i ≡ Some y
    → rows_with row i (drop i xs) (drop i ys) ≡ row i (get_or xs i d) y ∷ rows_with row (i + 1) (drop (i + 1) xs) (drop (i + 1) ys)
rows_from row xs ys i d y lt at =
    let within : i < length ys = slice_get_within ys i y at in
    let is_y : get_or ys i y ≡ y = get_or_from_slice_get ys i y y at in
    rw (drop_next xs i d lt, drop_next ys i y within, is_y) refl

-- one more such row is written
pub one_row : {A B : Type 0} (row : ℕ → A → B → OutputRow) (start old new : OutputText) (rows : List OutputRow) (items xs : List A) (ys : List B) (i : ℕ) (d : A) (y : B) (written : OutputRow)
    → items ≡ xs → i < length xs → slice_get ys i ≡ Some y
    → IsUnderWay start old rows (rows_with row i (drop i xs) (drop i ys)) → written ≡ row i (get_or items i d) y → AddsRows old new (written ∷ [])
    → IsUnderWay start new rows (rows_with row (i + 1) (drop (i + 1) xs) (drop (i + 1) ys))
one_row {A = A} row start old new rows items xs ys i d y written same lt at way is adds =
    more_rows start old new rows (row i (get_or xs i d) y ∷ []) (rows_with row (i + 1) (drop (i + 1) xs) (drop (i + 1) ys))
    (rw (rows_from row xs ys i d y lt at) at way)
    (subst (λ (one : OutputRow). AddsRows old new (one ∷ [])) (is ∙ ap (λ (zs : List A). row i (get_or zs i d) y) same) adds)

-- one row in a form
pub one_written : {V E : Type 0} (result : Result V E) (form : Form) (old new : List ℕ) (row wanted : OutputRow) → row ≡ wanted
    → OnOk result (new ≡ old ++ row_text form row) → OnOk result (AppendsRows form old new (wanted ∷ []))
one_written (Ok v) form old new row wanted same written =
    written ∙ ap (λ (r : OutputRow). old ++ row_text form r) same ∙ ap (λ (t : List ℕ). old ++ t) (sym (append-nil (row_text form wanted)))
one_written (Err e) form old new row wanted same written = tt

-- one row that is the wanted one
pub adds_row : (old new : OutputText) (row wanted : OutputRow) → row ≡ wanted → AddsRows old new (row ∷ []) → AddsRows old new (wanted ∷ [])
adds_row old new row wanted is adds = subst (λ (r : OutputRow). AddsRows old new (r ∷ [])) is adds

pub one_pushed : {V E : Type 0} (result : Result V E) (old new : OutputText) (row wanted : OutputRow) → row ≡ wanted → OnOk result (AddsRows old new (row ∷ []))
    → OnOk result (AddsRows old new (wanted ∷ []))
one_pushed (Ok v) old new row wanted same adds = adds_row old new row wanted same adds
one_pushed (Err e) old new row wanted same adds = tt
