-- Values have one record.
use Rattle.std.specs.Prelude.{◌&&◌, ◌==◌, bytes_eq, int_le, position, Some, None, Option, Result, Ok, if◌then◌else◌}
use Rattle.std.proofs.Common.{◌≡◌, ◌∙◌, ℕ, ℤ, Bool, true, false, List, [], ◌∷◌, length, refl, sym, ap, ap₂, arith}
use Rattle.std.proofs.lemmas.Bool.{ne_eqb}
use Rattle.pb_rows.specs.Date.{day_of}
use Rattle.pb_rows.specs.Name.{is_name}
use Rattle.pb_rows.specs.Number.{number, whole_text, within}
use Rattle.pb_rows.specs.Reason.{is_reason}
use Rattle.pb_rows.specs.Texts.{HaveOneDateText, HaveOneNumberText}
use Rattle.pb_form.proofs.FieldLemmas.{word_found}
use Rattle.pb_form.proofs.PartsLemmas.{just_count, of_form, parts_of, read_parts, was_found}
use Rattle.pb_form.specs.Columns.{Column, Schema}
use Rattle.pb_form.specs.Field.{field_read, held_in}
use Rattle.pb_form.specs.Holds as holds
use Rattle.pb_form.specs.Laws.{OneRecordLaw}
use Rattle.pb_form.specs.Reading.{fields_read, row_read}
use Rattle.pb_form.specs.Value.{Value, Missing, Word, Name, Reason, Number, Date, Items}
use Rattle.pb_form.specs.Writing.{word_at}
use Rattle.pb_form.specs.declared.fault.FormFault.{FormFault}
use Rattle.pb_form.specs.declared.fault.FormFault.TheVariants as fault

-- ---- one field

-- a number within the range is the number of the field
passed : (lo hi z : ℤ) (number : Option ℤ) → within lo hi number ≡ Some z → number ≡ Some z
passed lo hi z None is = cc is
passed lo hi z (Some n) is = by (int_le lo n && int_le n hi) is
  where
    by : (b : Bool) → (if b then Some n else None) ≡ Some z → Some n ≡ Some z
    by true is = is
    by false is = cc is

-- two fields of one value
same_held : HaveOneNumberText → HaveOneDateText → (takes : holds.Holds) (a b : List ℕ) (v : Value) → held_in takes a ≡ Ok v → held_in takes b ≡ Ok v → a ≡ b
same_held numbers dates (holds.Word words) a b v one other =
    let x = was_found Word fault.Word (position (bytes_eq a) words) v one in
    let y = was_found Word fault.Word (position (bytes_eq b) words) v other in
    let words_same : Word x.0 ≡ Word y.0 = sym x.1.1 ∙ y.1.1 in
    let same : x.0 ≡ y.0 = cc words_same in
    sym (word_found words a x.0 x.1.0) ∙ ap (word_at words) same ∙ word_found words b y.0 y.1.0
same_held numbers dates holds.Name a b v one other =
    let same : Name a ≡ Name b = sym (of_form is_name Name fault.Name a v one) ∙ of_form is_name Name fault.Name b v other in
    cc same
same_held numbers dates holds.Reason a b v one other =
    let same : Reason a ≡ Reason b = sym (of_form is_reason Reason fault.Name a v one) ∙ of_form is_reason Reason fault.Name b v other in
    cc same
same_held numbers dates (holds.Number lo hi) a b v one other =
    let x = was_found Number fault.Number (within lo hi (number a)) v one in
    let y = was_found Number fault.Number (within lo hi (number b)) v other in
    let numbers_same : Number x.0 ≡ Number y.0 = sym x.1.1 ∙ y.1.1 in
    let same : x.0 ≡ y.0 = cc numbers_same in
    numbers.only a x.0 (passed lo hi x.0 (number a) x.1.0) ∙ ap whole_text same ∙ sym (numbers.only b y.0 (passed lo hi y.0 (number b) y.1.0))
same_held numbers dates holds.Date a b v one other =
    let x = was_found Date fault.Date (day_of a) v one in
    let y = was_found Date fault.Date (day_of b) v other in
    let days_same : Date x.0 ≡ Date y.0 = sym x.1.1 ∙ y.1.1 in
    let same : x.0 ≡ y.0 = cc days_same in
    dates.one a b x.0 x.1.0 (y.1.0 ∙ ap (λ (day : ℤ). Some day) (sym same))
same_held numbers dates holds.Items a b v one other =
    let same : Items a ≡ Items b = cc in
    cc same

-- a field that isn't left out says something
never_missing : (takes : holds.Holds) (field : List ℕ) → held_in takes field ≡ Ok Missing → ⊥
never_missing (holds.Word words) field says = cc ((was_found Word fault.Word (position (bytes_eq field) words) Missing says).1.1)
never_missing holds.Name field says = cc (of_form is_name Name fault.Name field Missing says)
never_missing holds.Reason field says = cc (of_form is_reason Reason fault.Name field Missing says)
never_missing (holds.Number lo hi) field says = cc ((was_found Number fault.Number (within lo hi (number field)) Missing says).1.1)
never_missing holds.Date field says = cc ((was_found Date fault.Date (day_of field) Missing says).1.1)
never_missing holds.Items field says = cc says

-- a field that is left out is empty
left_out : (optional : Bool) (text : List ℕ) → (optional && (length text == 0)) ≡ true → text ≡ []
left_out optional [] is = refl
left_out false (byte ∷ text) is = cc is
left_out true (byte ∷ text) is =
    let some : (length (byte ∷ text) == 0) ≡ false = ne_eqb (length (byte ∷ text)) 0 (λ same. absurd (omega (arith, same))) in
    cc (sym some ∙ is)

-- two fields of one column and one value
same_field : HaveOneNumberText → HaveOneDateText → (column : Column) (a b : List ℕ) (v : Value) → field_read column a ≡ Ok v → field_read column b ≡ Ok v → a ≡ b
same_field numbers dates column a b v one other =
    by (column.optional && (length a == 0)) refl (column.optional && (length b == 0)) refl one other
  where
    by : (p : Bool) → (column.optional && (length a == 0)) ≡ p → (q : Bool) → (column.optional && (length b == 0)) ≡ q
        → (if p then Ok Missing else held_in column.holds a) ≡ Ok v → (if q then Ok Missing else held_in column.holds b) ≡ Ok v → a ≡ b
    by true e true f one other = left_out column.optional a e ∙ sym (left_out column.optional b f)
    by true e false f one other = absurd (never_missing column.holds b (other ∙ sym one))
    by false e true f one other = absurd (never_missing column.holds a (one ∙ sym other))
    by false e false f one other = same_held numbers dates column.holds a b v one other

-- ---- a row

-- two lists of fields of the same values
same_fields : HaveOneNumberText → HaveOneDateText → (columns : List Column) (values : List Value) (a b : List (List ℕ))
    → length a ≡ length columns → length b ≡ length columns → fields_read columns a ≡ Ok values → fields_read columns b ≡ Ok values → a ≡ b
same_fields numbers dates [] values [] [] m n one other = refl
same_fields numbers dates [] values (x ∷ a) b m n one other = absurd (omega (arith, m))
same_fields numbers dates [] values [] (y ∷ b) m n one other = absurd (omega (arith, n))
same_fields numbers dates (column ∷ columns) values [] b m n one other = absurd (omega (arith, m))
same_fields numbers dates (column ∷ columns) values (x ∷ a) [] m n one other = absurd (omega (arith, n))
same_fields numbers dates (column ∷ columns) values (x ∷ a) (y ∷ b) m n one other =
    let p = parts_of (field_read column x) (fields_read columns a) values one in
    let q = parts_of (field_read column y) (fields_read columns b) values other in
    let both : p.value ∷ p.others ≡ q.value ∷ q.others = sym p.all ∙ q.all in
    let first : p.value ≡ q.value = cc both in
    let rest : p.others ≡ q.others = cc both in
    let ok : Value → Result Value FormFault = λ v. Ok v in
    let oks : List Value → Result (List Value) FormFault = λ vs. Ok vs in
    let field = same_field numbers dates column x y p.value p.one (q.one ∙ ap ok (sym first)) in
    let fields = same_fields numbers dates columns p.others a b (omega (arith, m)) (omega (arith, n)) p.more (q.more ∙ ap oks (sym rest)) in
    ap₂ (λ (f : List ℕ) (fs : List (List ℕ)). f ∷ fs) field fields

-- the fields of a record that writes values
record AreWritten (schema : Schema) (values : List Value) (row : List (List ℕ)) : Type 0 where
  count : length row ≡ length schema.columns
  says : fields_read schema.columns row ≡ Ok values

written_by : (schema : Schema) (values : List Value) (row : List (List ℕ)) → schema.tail ≡ [] → row_read schema row ≡ Ok values → AreWritten schema values row
written_by schema values row none writes =
    let read = read_parts schema values row writes in
    record { count = just_count schema (length row) none read.counts; says = read.says }

pub one_record : HaveOneNumberText → HaveOneDateText → OneRecordLaw
one_record numbers dates schema values a b none one other =
    let p = written_by schema values a none one in
    let q = written_by schema values b none other in
    same_fields numbers dates schema.columns values a b p.count q.count p.says q.says
