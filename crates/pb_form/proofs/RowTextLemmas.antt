-- The texts of values.
use Rattle.std.specs.Prelude.{◌&&◌, ◌==◌, IfOk, int_le, map, Some, Result, Ok, Err, if◌then◌else◌}
use Rattle.std.proofs.Common.{◌≡◌, ◌∙◌, ◌<◌, ◌≤ℤ◌, ◌+◌, ℕ, ℤ, suc, Bool, true, false, List, [], ◌∷◌, ◌++◌, length, drop, get_or, refl, sym, ap, arith, add-one, append_assoc, subst}
use Rattle.std.proofs.lemmas.Bool.{ne_eqb}
use Rattle.std.proofs.lemmas.Int.{ints}
use Rattle.std.proofs.lemmas.List.{length-map}
use Rattle.std.proofs.Math.Seq.{drop-cons}
use Rattle.pb_rows.specs.Date.{day_of}
use Rattle.pb_rows.specs.Name.{is_name}
use Rattle.pb_rows.specs.Number.{number, whole_text}
use Rattle.pb_rows.specs.Reason.{is_reason}
use Rattle.pb_rows.specs.Texts.{HaveOneDateText, HaveOneNumberText}
use Rattle.pb_form.specs.Columns.{Column, Schema}
use Rattle.pb_form.specs.Days.{text_of_day}
use Rattle.pb_form.specs.Field.{held_in}
use Rattle.pb_form.specs.Given.{text_as, value_as, values_as}
use Rattle.pb_form.specs.Holds.{Holds}
use Rattle.pb_form.specs.Holds as holds
use Rattle.pb_form.specs.TextLaws.{OutputWordLaw, TextLaw}
use Rattle.pb_form.specs.OutputRows.{output_columns, output_schema}
use Rattle.pb_form.specs.Reading.{fields_read}
use Rattle.pb_form.specs.Seen.{column_seen, holds_seen, schema_seen}
use Rattle.pb_form.specs.Texts.{texts_of, value_text}
use Rattle.pb_form.specs.Value.{Value, Missing}
use Rattle.pb_form.specs.Value as value
use Rattle.pb_form.specs.Writing.{FitEach, FitsIn, Writes, word_at}
use Rattle.pb_form.specs.declared.column.Column as coded_column
use Rattle.pb_form.specs.declared.column.Schema as coded_schema
use Rattle.pb_form.specs.declared.fault.FormFault.{FormFault}
use Rattle.pb_form.specs.declared.output.OutputKind.{OutputKind}
use Rattle.pb_form.specs.declared.output.OutputKind.TheVariants as kind
use Rattle.pb_form.specs.declared.value.Value as coded
use Rattle.pb_form.proofs.DayTextLemmas.{day_reads}
use Rattle.pb_form.proofs.WritingLemmas.{whole_row}

-- a text is the text of its value, whatever the column takes
pub text_told : (takes : Holds) (text : List ℕ) → value_text takes (text_as takes text) ≡ text
text_told (holds.Word words) text = refl
text_told holds.Name text = refl
text_told holds.Reason text = refl
text_told (holds.Number lo hi) text = refl
text_told holds.Date text = refl
text_told holds.Items text = refl

-- one more text
pub one_text : (columns : List coded_column.Column) (values : List coded.Value) (row : List (List ℕ)) (i : ℕ) (d : coded_column.Column) (e : coded.Value) (all : List (List ℕ))
    → i < length columns → i < length values
    → row ++ texts_of (map column_seen (drop i columns)) (values_as (map column_seen (drop i columns)) (drop i values)) ≡ all
    → (row ++ value_text (holds_seen (get_or columns i d).holds) (value_as (holds_seen (get_or columns i d).holds) (get_or values i e)) ∷ [])
    ++ texts_of (map column_seen (drop (i + 1) columns)) (values_as (map column_seen (drop (i + 1) columns)) (drop (i + 1) values)) ≡ all
one_text columns values row i d e all there has so =
    let text = value_text (holds_seen (get_or columns i d).holds) (value_as (holds_seen (get_or columns i d).holds) (get_or values i e)) in
    let rest = texts_of (map column_seen (drop (suc i) columns)) (values_as (map column_seen (drop (suc i) columns)) (drop (suc i) values)) in
    let left = rw (drop-cons columns i d there, drop-cons values i e has) at so in
    rw (add-one i) (append_assoc row (text ∷ []) rest ∙ left)

-- there are as many values as columns, and as many texts
pub count_as : (columns : List Column) (values : List coded.Value) → length values ≡ length columns → length (values_as columns values) ≡ length columns
count_as [] [] same = refl
count_as [] (one ∷ values) same = absurd (omega (arith, same))
count_as (column ∷ columns) [] same = absurd (omega (arith, same))
count_as (column ∷ columns) (one ∷ values) same = ap suc (count_as columns values (omega (arith, same)))

pub count_texts : (columns : List Column) (values : List Value) → length values ≡ length columns → length (texts_of columns values) ≡ length columns
count_texts [] [] same = refl
count_texts [] (one ∷ values) same = absurd (omega (arith, same))
count_texts (column ∷ columns) [] same = absurd (omega (arith, same))
count_texts (column ∷ columns) (one ∷ values) same = ap suc (count_texts columns values (omega (arith, same)))

-- ---- the columns of a kind, as the code has them

pub seen_columns : (schema : coded_schema.Schema) (k : OutputKind) → schema_seen schema ≡ output_schema k → map column_seen schema.columns.now ≡ output_columns k
seen_columns schema k is = ap (λ (s : Schema). s.columns) is

pub seen_count : (schema : coded_schema.Schema) (k : OutputKind) → schema_seen schema ≡ output_schema k → length (output_columns k) ≡ length schema.columns.now
seen_count schema k is = sym (ap (λ (columns : List Column). length columns) (seen_columns schema k is)) ∙ length-map schema.columns.now column_seen

-- the texts by columns that are the same
pub written_by : {E : Type 0} (result : Result (List (List ℕ)) E) (columns others : List Column) (values : List coded.Value) → columns ≡ others
    → IfOk result (λ row. row ≡ texts_of columns (values_as columns values)) → IfOk result (λ row. row ≡ texts_of others (values_as others values))
written_by {E = E} result columns others values same written =
    subst (λ (cs : List Column). IfOk result (λ row. row ≡ texts_of cs (values_as cs values))) same written

pub written_count : {E : Type 0} (result : Result (List (List ℕ)) E) (columns : List Column) (values : List coded.Value) → length values ≡ length columns
    → IfOk result (λ row. row ≡ texts_of columns (values_as columns values)) → IfOk result (λ row. length row ≡ length columns)
written_count (Ok row) columns values same written =
    ap (λ (fields : List (List ℕ)). length fields) written ∙ count_texts columns (values_as columns values) (count_as columns values same)
written_count (Err error) columns values same written = tt

-- ---- texts of values that fit read back as them

abbrev ok_value : Value → Result Value FormFault
ok_value value = Ok value

some_name : (text : List ℕ) → is_name text ≡ true → (length text == 0) ≡ false
some_name [] form = cc form
some_name (byte ∷ text) form = ne_eqb (length (byte ∷ text)) 0 (λ same. absurd (omega (arith, same)))

some_reason : (text : List ℕ) → is_reason text ≡ true → (length text == 0) ≡ false
some_reason [] form = cc form
some_reason (byte ∷ text) form = ne_eqb (length (byte ∷ text)) 0 (λ same. absurd (omega (arith, same)))

some_number : (text : List ℕ) (z : ℤ) → number text ≡ Some z → (length text == 0) ≡ false
some_number [] z reads = cc reads
some_number (byte ∷ text) z reads = ne_eqb (length (byte ∷ text)) 0 (λ same. absurd (omega (arith, same)))

-- a text that isn't taken for one that is left out is read
not_left : (optional : Bool) (text : List ℕ) (read : Result Value FormFault) (v : Value) → (optional && (length text == 0)) ≡ false → read ≡ ok_value v
    → (if optional && (length text == 0) then Ok Missing else read) ≡ ok_value v
not_left optional text read v told is = rw told is

not_empty : (optional : Bool) (text : List ℕ) → (length text == 0) ≡ false → (optional && (length text == 0)) ≡ false
not_empty true text some = some
not_empty false text some = refl

le_true : (a b : ℤ) → a ≤ℤ b → int_le a b ≡ true
le_true a b h = grind (arith, ints)

some_date : (text : List ℕ) (day : ℤ) → day_of text ≡ Some day → (length text == 0) ≡ false
some_date [] day reads = cc reads
some_date (byte ∷ text) day reads = ne_eqb (length (byte ∷ text)) 0 (λ same. absurd (omega (arith, same)))

one_back : HaveOneNumberText → HaveOneDateText → (takes : Holds) (optional : Bool) (v : Value) → FitsIn takes optional v
    → (if optional && (length (value_text takes v) == 0) then Ok Missing else held_in takes (value_text takes v)) ≡ ok_value v
one_back numbers dates takes optional Missing fit = rw fit refl
one_back numbers dates (holds.Word words) optional (value.Word place) fit =
    not_left optional (word_at words place) (held_in (holds.Word words) (word_at words place)) (value.Word place) fit.1 (rw fit.0 refl)
one_back numbers dates holds.Name optional (value.Name text) fit =
    not_left optional text (held_in holds.Name text) (value.Name text) (not_empty optional text (some_name text fit)) (rw fit refl)
one_back numbers dates holds.Reason optional (value.Reason text) fit =
    not_left optional text (held_in holds.Reason text) (value.Reason text) (not_empty optional text (some_reason text fit)) (rw fit refl)
one_back numbers dates (holds.Number lo hi) optional (value.Number z) fit =
    let reads = numbers.read z in
    not_left optional (whole_text z) (held_in (holds.Number lo hi) (whole_text z)) (value.Number z) (not_empty optional (whole_text z) (some_number (whole_text z) z reads))
    (rw (reads, le_true lo z fit.0, le_true z hi fit.1) refl)
one_back numbers dates holds.Date optional (value.Date day) fit =
    let reads = day_reads dates day fit in
    not_left optional (text_of_day day) (held_in holds.Date (text_of_day day)) (value.Date day) (not_empty optional (text_of_day day) (some_date (text_of_day day) day reads)) (rw reads refl)
one_back numbers dates holds.Items optional (value.Items text) fit = not_left optional text (held_in holds.Items text) (value.Items text) fit refl
one_back numbers dates takes optional v fit = absurd fit

all_back : HaveOneNumberText → HaveOneDateText → (columns : List Column) (values : List Value) → FitEach columns values → fields_read columns (texts_of columns values) ≡ Ok values
all_back numbers dates [] [] fit = refl
all_back numbers dates [] (v ∷ values) fit = absurd fit
all_back numbers dates (column ∷ columns) [] fit = absurd fit
all_back numbers dates (column ∷ columns) (v ∷ values) fit =
    let first = one_back numbers dates column.holds column.optional v fit.0 in
    let rest = all_back numbers dates columns values fit.1 in
    rw (first, rest) refl

fit_count : (columns : List Column) (values : List Value) → FitEach columns values → length values ≡ length columns
fit_count [] [] fit = refl
fit_count [] (v ∷ values) fit = absurd fit
fit_count (column ∷ columns) [] fit = absurd fit
fit_count (column ∷ columns) (v ∷ values) fit = ap suc (fit_count columns values fit.1)

pub texts_back : HaveOneNumberText → HaveOneDateText → TextLaw
texts_back numbers dates schema values fit =
    whole_row schema (texts_of schema.columns values) values (count_texts schema.columns values (fit_count schema.columns values fit)) (all_back numbers dates schema.columns values fit)

-- so a record that has them writes the values
pub written_back : {E : Type 0} → TextLaw → (schema : Schema) (values : List Value) (result : Result (List (List ℕ)) E) → FitEach schema.columns values
    → IfOk result (λ row. row ≡ texts_of schema.columns values) → IfOk result (λ row. Writes schema values row)
written_back law schema values (Ok row) fit is = subst (λ (fields : List (List ℕ)). Writes schema values fields) (sym is) (law schema values fit)
written_back law schema values (Err error) fit is = tt

-- the first field of each kind is a word
pub rows_begin : OutputWordLaw
rows_begin kind.Refused values = refl
rows_begin it values = refl
