-- What a record says by a schema fits its columns.
use Rattle.std.specs.Prelude.{◌&&◌, ◌==◌, bytes_eq, nat_le, position, Ok, Err, if◌then◌else◌}
use Rattle.std.proofs.Common.{◌≡◌, ◌≤◌, ℕ, Bool, true, false, List, [], ◌∷◌, length, refl, subst, arith}
use Rattle.std.proofs.lemmas.Bool.{and_parts}
use Rattle.std.proofs.lemmas.Bool.Decides.{nat_tests}
use Rattle.pb_rows.specs.Date.{day_of}
use Rattle.pb_rows.specs.Name.{is_name}
use Rattle.pb_rows.specs.Number.{number, within}
use Rattle.pb_rows.specs.Reason.{is_reason}
use Rattle.pb_rows.specs.Texts.{HaveOneDateText}
use Rattle.pb_form.proofs.FieldLemmas.{number_fits, word_fits}
use Rattle.pb_form.proofs.PartsLemmas.{least_count, of_form, parts_of, read_parts, was_found}
use Rattle.pb_form.specs.Columns.{Column}
use Rattle.pb_form.specs.Field.{field_read, held_in}
use Rattle.pb_form.specs.Holds as holds
use Rattle.pb_form.specs.Laws.{FittingLaw}
use Rattle.pb_form.specs.Reading.{fields_read}
use Rattle.pb_form.specs.Said.{formed}
use Rattle.pb_form.specs.Value.{Value, Missing, Word, Name, Reason, Number, Date, Items}
use Rattle.pb_form.specs.Writing.{FitEach, FitsColumn, FitsIn}
use Rattle.pb_form.specs.declared.fault.FormFault.{FormFault}
use Rattle.pb_form.specs.declared.fault.FormFault.TheVariants as fault

-- a field of a form has the form
has_form : (is_form : List ℕ → Bool) (value : List ℕ → Value) (bad : FormFault) (field : List ℕ) (v : Value) → formed is_form value bad field ≡ Ok v → is_form field ≡ true
has_form is_form value bad field v says = by (is_form field) says
  where
    by : (b : Bool) → (if b then Ok (value field) else Err bad) ≡ Ok v → b ≡ true
    by true says = refl
    by false says = cc says

-- a field that isn't left out
held_fits : HaveOneDateText → (takes : holds.Holds) (optional : Bool) (field : List ℕ) (v : Value) → (optional && (length field == 0)) ≡ false → held_in takes field ≡ Ok v
    → FitsIn takes optional v
held_fits dates (holds.Word words) optional field v told says =
    let found = was_found Word fault.Word (position (bytes_eq field) words) v says in
    rw found.1.1 (word_fits words field found.0 optional found.1.0 told)
held_fits dates holds.Name optional field v told says =
    rw (of_form is_name Name fault.Name field v says) (has_form is_name Name fault.Name field v says)
held_fits dates holds.Reason optional field v told says =
    rw (of_form is_reason Reason fault.Name field v says) (has_form is_reason Reason fault.Name field v says)
held_fits dates (holds.Number lo hi) optional field v told says =
    let found = was_found Number fault.Number (within lo hi (number field)) v says in
    rw found.1.1 (number_fits lo hi found.0 (number field) found.1.0)
held_fits dates holds.Date optional field v told says =
    let found = was_found Date fault.Date (day_of field) v says in
    rw found.1.1 (dates.within field found.0 found.1.0)
held_fits dates holds.Items optional field v told says =
    let same : v ≡ Items field = cc says in
    rw same told

-- any field
field_fits : HaveOneDateText → (column : Column) (field : List ℕ) (v : Value) → field_read column field ≡ Ok v → FitsColumn column v
field_fits dates column field v says = by (column.optional && (length field == 0)) refl says
  where
    by : (b : Bool) → (column.optional && (length field == 0)) ≡ b → (if b then Ok Missing else held_in column.holds field) ≡ Ok v → FitsColumn column v
    by true left says =
        let none : v ≡ Missing = cc says in
        rw none (and_parts column.optional (length field == 0) left).0
    by false told says = held_fits dates column.holds column.optional field v told says

-- all fields
pub fields_fit : HaveOneDateText → (columns : List Column) (values : List Value) (fields : List (List ℕ)) → length columns ≤ length fields → fields_read columns fields ≡ Ok values
    → FitEach columns values
fields_fit dates [] values [] long says =
    let none : [] ≡ values = cc says in
    subst (FitEach []) none tt
fields_fit dates [] values (field ∷ fields) long says =
    let none : [] ≡ values = cc says in
    subst (FitEach []) none tt
fields_fit dates (column ∷ columns) values [] long says = absurd (omega (arith, long))
fields_fit dates (column ∷ columns) values (field ∷ fields) long says =
    let parts = parts_of (field_read column field) (fields_read columns fields) values says in
    rw parts.all (field_fits dates column field parts.value parts.one, fields_fit dates columns parts.others fields (omega (arith, long)) parts.more)

pub fitting : HaveOneDateText → FittingLaw
fitting dates schema values fields writes =
    let read = read_parts schema values fields writes in
    let counts : nat_le (length schema.columns) (length fields) ≡ true = least_count schema (length fields) read.counts in
    let long : length schema.columns ≤ length fields = grind (arith, nat_tests) in
    fields_fit dates schema.columns values fields long read.says
