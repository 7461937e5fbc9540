-- The parts of a reading without a fault: the number of fields, and the value of each field.
use Rattle.std.specs.Prelude.{◌==◌, nat_le, Some, None, Option, Result, Ok, Err, if◌then◌else◌}
use Rattle.std.proofs.Common.{◌≡◌, ◌≤◌, ◌-◌, ℕ, Bool, true, false, List, [], ◌∷◌, length, refl, sym, arith}
use Rattle.std.proofs.lemmas.Bool.{and_parts}
use Rattle.std.proofs.lemmas.Bool.Decides.{nat_tests}
use Rattle.pb_form.specs.Columns.{Schema}
use Rattle.pb_form.specs.Reading.{are_turns, both_read, fields_read, has_count, row_read, tail_read}
use Rattle.pb_form.specs.Said.{formed, found}
use Rattle.pb_form.specs.Told.{read_before}
use Rattle.pb_form.specs.Value.{Value}
use Rattle.pb_form.specs.declared.fault.FormFault.{FormFault}
use Rattle.pb_form.specs.declared.fault.FormFault.TheVariants as fault

-- the field of a form
pub of_form : (is_form : List ℕ → Bool) (value : List ℕ → Value) (bad : FormFault) (field : List ℕ) (v : Value) → formed is_form value bad field ≡ Ok v → v ≡ value field
of_form is_form value bad field v says = by (is_form field) says
  where
    by : (b : Bool) → (if b then Ok (value field) else Err bad) ≡ Ok v → v ≡ value field
    by true says = cc says
    by false says = cc says

-- what was found in a field
pub was_found : {A : Type 0} (value : A → Value) (bad : FormFault) (option : Option A) (v : Value) → found value bad option ≡ Ok v → (a : A) × ((option ≡ Some a) × (v ≡ value a))
was_found value bad None v says = absurd (cc says)
was_found value bad (Some a) v says = (a, (refl, cc says))

-- a first value and the others
pub record AreParts (first : Result Value FormFault) (rest : Result (List Value) FormFault) (values : List Value) : Type 0 where
  pub value : Value
  pub others : List Value
  pub one : first ≡ Ok value
  pub more : rest ≡ Ok others
  pub all : values ≡ value ∷ others

pub parts_of : (first : Result Value FormFault) (rest : Result (List Value) FormFault) (values : List Value) → read_before first rest ≡ Ok values → AreParts first rest values
parts_of (Ok v) (Ok others) values says =
    let same : v ∷ others ≡ values = cc says in
    record { value = v; others = others; one = refl; more = refl; all = sym same }
parts_of (Ok v) (Err bad) values says = absurd (cc says)
parts_of (Err bad) (Ok others) values says = absurd (cc says)
parts_of (Err bad) (Err other) values says = absurd (cc says)

-- the number of fields of a record that was read is right, its fields say the values, and the fields of its tail say some too
pub record IsRead (schema : Schema) (values : List Value) (row : List (List ℕ)) : Type 0 where
  pub counts : has_count schema (length row) ≡ true
  pub says : fields_read schema.columns row ≡ Ok values
  pub others : List Value
  pub tail : tail_read schema row ≡ Ok others

pub read_parts : (schema : Schema) (values : List Value) (row : List (List ℕ)) → row_read schema row ≡ Ok values → IsRead schema values row
read_parts schema values row reads = by (has_count schema (length row)) refl reads
  where
    said : (front rest : Result (List Value) FormFault) → both_read (λ values rest. values) front rest ≡ Ok values → (front ≡ Ok values) × ((others : List Value) × (rest ≡ Ok others))
    said (Ok front) (Ok rest) is = (is, (rest, refl))
    said (Ok front) (Err bad) is = absurd (cc is)
    said (Err bad) (Ok rest) is = absurd (cc is)
    said (Err bad) (Err other) is = absurd (cc is)

    by : (b : Bool) → has_count schema (length row) ≡ b
        → (if b then both_read (λ values rest. values) (fields_read schema.columns row) (tail_read schema row) else Err fault.Fields) ≡ Ok values → IsRead schema values row
    by true counts is =
        let parts = said (fields_read schema.columns row) (tail_read schema row) is in
        record { counts = counts; says = parts.0; others = parts.1.0; tail = parts.1.1 }
    by false counts is = cc is

-- a row of a schema has at least one field for each column
pub least_count : (schema : Schema) (n : ℕ) → has_count schema n ≡ true → nat_le (length schema.columns) n ≡ true
least_count schema n counts = (and_parts (nat_le (length schema.columns) n) (are_turns schema.tail (n - length schema.columns)) counts).0

pub has_columns : (schema : Schema) (n : ℕ) → has_count schema n ≡ true → length schema.columns ≤ n
has_columns schema n counts =
    let least : nat_le (length schema.columns) n ≡ true = least_count schema n counts in
    grind (arith, nat_tests)

-- without a tail it has just one field for each column
pub just_count : (schema : Schema) (n : ℕ) → schema.tail ≡ [] → has_count schema n ≡ true → n ≡ length schema.columns
just_count schema n none counts =
    let parts = and_parts (nat_le (length schema.columns) n) (are_turns schema.tail (n - length schema.columns)) counts in
    let least : nat_le (length schema.columns) n ≡ true = parts.0 in
    let rest : (n - length schema.columns == 0) ≡ true = rw none at parts.1 in
    grind (arith, nat_tests)
