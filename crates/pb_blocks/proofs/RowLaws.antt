-- What a row that was read says fits its columns.
use Rattle.std.specs.Prelude.{◌&&◌, ◌==◌, ◌-◌, bytes_eq, int_le, nat_le, position, IfSome, Result, Ok, Err, slice_get, if◌then◌else◌}
use Rattle.std.specs.Option.{unwrap_or}
use Rattle.std.proofs.Common.{◌≡◌, ◌∙◌, ◌≤◌, ℕ, ℤ, zero, suc, pos, Bool, true, false, List, [], ◌∷◌, length, Option, Some, None, refl, sym, ap, arith, inl, inr}
use Rattle.std.proofs.lemmas.Bool.{and_parts, cases_Bool}
use Rattle.std.proofs.lemmas.Bool.Decides.{nat_tests}
use Rattle.std.proofs.lemmas.Int.{ints}
use Rattle.pb_rows.specs.Name.{is_name}
use Rattle.pb_rows.specs.Number.{number, within}
use Rattle.pb_form.specs.Columns.{Column, Schema}
use Rattle.pb_form.specs.Field.{field_read}
use Rattle.pb_form.specs.Holds.{Name as NameColumn, Number as NumberColumn, Word as WordColumn}
use Rattle.pb_form.specs.OutputRows.{output_columns, output_schema}
use Rattle.pb_form.specs.Reading.{are_turns, both_read, fields_read, has_count, row_read, tail_read}
use Rattle.pb_form.specs.Said.{formed, found}
use Rattle.pb_form.specs.Value.{Value, Missing, Name, Number, Word}
use Rattle.pb_form.specs.Values.{number_in, value_at, number_at}
use Rattle.pb_form.specs.declared.fault.FormFault.{FormFault}
use Rattle.pb_form.specs.declared.fault.FormFault.TheVariants as fault
use Rattle.pb_form.specs.declared.output.OutputKind.{OutputKind}
use Rattle.pb_blocks.specs.Laws.{HasColumn, LiesWithin, RowReadLaw}
use Rattle.pb_blocks.specs.Texts.{field}

-- ---- the fields of a row that was read

record AreRead (columns : List Column) (row : List (List ℕ)) (values : List Value) : Type 0 where
  fields : fields_read columns row ≡ Ok values
  many : length columns ≤ length row

are_read : (schema : Schema) (row : List (List ℕ)) (values : List Value) → row_read schema row ≡ Ok values → AreRead schema.columns row values
are_read schema row values read = by (has_count schema (length row)) refl (fields_read schema.columns row) refl (tail_read schema row) read
  where
    by : (b : Bool) → has_count schema (length row) ≡ b → (front : Result (List Value) FormFault) → fields_read schema.columns row ≡ front
        → (rest : Result (List Value) FormFault) → (if b then both_read (λ values rest. values) front rest else Err fault.Fields) ≡ Ok values → AreRead schema.columns row values
    by false count front is rest read = cc read
    by true count (Err bad) is (Ok more) read = cc read
    by true count (Err bad) is (Err other) read = cc read
    by true count (Ok told) is (Err other) read = cc read
    by true count (Ok told) is (Ok more) read =
        let same : told ≡ values = cc read in
        let parts = and_parts (nat_le (length schema.columns) (length row)) (are_turns schema.tail (length row - length schema.columns)) count in
        record { fields = rw (is, same) refl; many = grind (arith, nat_tests, parts.0) }

-- the value of the first field, and the values of the others
record IsFirstRead (asked : Column) (columns : List Column) (text : List ℕ) (row : List (List ℕ)) (values : List Value) : Type 0 where
  value : Value
  rest : List Value
  one : field_read asked text ≡ Ok value
  others : fields_read columns row ≡ Ok rest
  split : values ≡ value ∷ rest

first_read : (asked : Column) (columns : List Column) (text : List ℕ) (row : List (List ℕ)) (values : List Value) → fields_read (asked ∷ columns) (text ∷ row) ≡ Ok values
    → IsFirstRead asked columns text row values
first_read asked columns text row values read = by (field_read asked text) refl (fields_read columns row) refl read
  where
    by : (one : Result Value FormFault) → field_read asked text ≡ one → (others : Result (List Value) FormFault) → fields_read columns row ≡ others
        → both_read (λ value values. value ∷ values) one others ≡ Ok values → IsFirstRead asked columns text row values
    by (Err bad) one (Ok rest) others read = cc read
    by (Err bad) one (Err other) others read = cc read
    by (Ok value) one (Err other) others read = cc read
    by (Ok value) one (Ok rest) others read =
        let same : value ∷ rest ≡ values = cc read in
        record { value = value; rest = rest; one = one; others = others; split = sym same }

-- the value at the place of a column is what its field says
record SaysAt (asked : Column) (row : List (List ℕ)) (values : List Value) (place : ℕ) : Type 0 where
  value : Value
  at : slice_get values place ≡ Some value
  says : field_read asked (field row place) ≡ Ok value

says_at : (columns : List Column) (row : List (List ℕ)) (values : List Value) (place : ℕ) (asked : Column) → AreRead columns row values
    → slice_get columns place ≡ Some asked → SaysAt asked row values place
says_at [] row values place asked read at = cc at
says_at (first ∷ columns) [] values place asked read at = absurd (omega (arith, read.many))
says_at (first ∷ columns) (text ∷ row) values zero asked read at =
    let here = first_read first columns text row values read.fields in
    let same : first ≡ asked = cc in
    record { value = here.value; at = ap (λ (all : List Value). slice_get all zero) here.split; says = rw (← same) here.one }
says_at (first ∷ columns) (text ∷ row) values (suc place) asked read at =
    let here = first_read first columns text row values read.fields in
    let more = says_at columns row here.rest place asked (record { fields = here.others; many = omega (arith, read.many) }) at in
    record { value = more.value; at = ap (λ (all : List Value). slice_get all (suc place)) here.split ∙ more.at; says = more.says }

-- ---- what a field says

-- a number that passes lies in its range
passes : (lo hi z : ℤ) (value : Value) → found Number fault.Number (within lo hi (Some z)) ≡ Ok value → (value ≡ Number z) × LiesWithin lo hi z
passes lo hi z value says = elim (cases_Bool (int_le lo z && int_le z hi)) [
  | inl inside ↦
      let told = rw inside at says in
      let is : Number z ≡ value = cc told in
      let parts = and_parts (int_le lo z) (int_le z hi) inside in
      (sym is, (omega (arith, ints, parts.0), omega (arith, ints, parts.1)))
  | inr outside ↦ let told = rw outside at says in cc told
]

number_says : (lo hi : ℤ) (read : Option ℤ) (value : Value) → found Number fault.Number (within lo hi read) ≡ Ok value → LiesWithin lo hi (unwrap_or (number_in value) (pos 0))
number_says lo hi None value says = cc says
number_says lo hi (Some z) value says = let h = passes lo hi z value says in rw (h.0) h.1

optional_says : (lo hi : ℤ) (blank : Bool) (read : Option ℤ) (value : Value) → (if blank then Ok Missing else found Number fault.Number (within lo hi read)) ≡ Ok value
    → IfSome (number_in value) (LiesWithin lo hi)
optional_says lo hi true read value says = let is : Missing ≡ value = cc says in rw (← is) tt
optional_says lo hi false None value says = cc says
optional_says lo hi false (Some z) value says = let h = passes lo hi z value says in rw (h.0) h.1

-- a word isn't a number
word_says : (place : Option ℕ) (value : Value) → found Word fault.Word place ≡ Ok value → number_in value ≡ None
word_says None value says = cc says
word_says (Some place) value says = let is : Word place ≡ value = cc says in rw (← is) refl

name_says : (text : List ℕ) (value : Value) → formed is_name Name fault.Name text ≡ Ok value → is_name text ≡ true
name_says text value says = elim (cases_Bool (is_name text)) [
  | inl holds ↦ holds
  | inr fails ↦ let told = rw fails at says in cc told
]

-- ---- the laws

says_in : (kind : OutputKind) (row : List (List ℕ)) (values : List Value) (place : ℕ) (asked : Column) → row_read (output_schema kind) row ≡ Ok values → HasColumn kind place asked
    → SaysAt asked row values place
says_in kind row values place asked read has = says_at (output_columns kind) row values place asked (are_read (output_schema kind) row values read) has

pub number_read : (kind : OutputKind) (row : List (List ℕ)) (values : List Value) (place : ℕ) (key : List ℕ) (lo hi : ℤ)
    → row_read (output_schema kind) row ≡ Ok values → HasColumn kind place (record { key = key; holds = NumberColumn lo hi; optional = false }) → LiesWithin lo hi (number_at values place)
number_read kind row values place key lo hi read has =
    let here = says_in kind row values place (record { key = key; holds = NumberColumn lo hi; optional = false }) read has in
    rw (here.at) (number_says lo hi (number (field row place)) here.value here.says)

pub optional_read : (kind : OutputKind) (row : List (List ℕ)) (values : List Value) (place : ℕ) (key : List ℕ) (lo hi : ℤ)
    → row_read (output_schema kind) row ≡ Ok values → HasColumn kind place (record { key = key; holds = NumberColumn lo hi; optional = true }) → IfSome (value_at number_in values place) (LiesWithin lo hi)
optional_read kind row values place key lo hi read has =
    let here = says_in kind row values place (record { key = key; holds = NumberColumn lo hi; optional = true }) read has in
    rw (here.at) (optional_says lo hi (length (field row place) == 0) (number (field row place)) here.value here.says)

pub word_read : (kind : OutputKind) (row : List (List ℕ)) (values : List Value) (place : ℕ) (key : List ℕ) (words : List (List ℕ))
    → row_read (output_schema kind) row ≡ Ok values → HasColumn kind place (record { key = key; holds = WordColumn words; optional = false }) → value_at number_in values place ≡ None
word_read kind row values place key words read has =
    let here = says_in kind row values place (record { key = key; holds = WordColumn words; optional = false }) read has in
    rw (here.at) (word_says (position (bytes_eq (field row place)) words) here.value here.says)

pub name_read : (kind : OutputKind) (row : List (List ℕ)) (values : List Value) (place : ℕ) (key : List ℕ) → row_read (output_schema kind) row ≡ Ok values
    → HasColumn kind place (record { key = key; holds = NameColumn; optional = false }) → is_name (field row place) ≡ true
name_read kind row values place key read has =
    let here = says_in kind row values place (record { key = key; holds = NameColumn; optional = false }) read has in
    name_says (field row place) here.value here.says

pub row_read_holds : RowReadLaw
row_read_holds = record { numbers = number_read; optionals = optional_read; names = name_read }
