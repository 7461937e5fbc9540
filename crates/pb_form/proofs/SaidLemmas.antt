-- What fields say, by places, and what a column doesn't say.
use Rattle.std.specs.Prelude.{◌&&◌, ◌==◌, bytes_eq, map, position, slice_get, if◌then◌else◌, Some, None, Option, Result, Ok, Err}
use Rattle.std.proofs.Common.{◌≡◌, ◌∙◌, ◌<◌, ◌≤◌, ◌+◌, ℕ, zero, suc, ℤ, Bool, true, false, Bor, List, [], ◌∷◌, length, drop, get_or, refl, ap, arith}
use Rattle.std.proofs.lemmas.Bool.{ne_eqb}
use Rattle.pb_rows.specs.Date.{day_of}
use Rattle.pb_rows.specs.Name.{is_name}
use Rattle.pb_rows.specs.Number.{number, within}
use Rattle.pb_rows.specs.Reason.{is_reason}
use Rattle.pb_form.specs.Columns.{Column}
use Rattle.pb_form.specs.Field.{field_read, held_in}
use Rattle.pb_form.specs.Holds as holds
use Rattle.pb_form.specs.Reading.{fields_read}
use Rattle.pb_form.specs.Said.{found, value_in, value_said, values_said}
use Rattle.pb_form.specs.Seen.{column_seen, holds_seen}
use Rattle.pb_form.specs.Told.{fault_in, joined, read_before, so_far, soonest}
use Rattle.pb_form.specs.Value.{Value}
use Rattle.pb_form.specs.Value as value
use Rattle.pb_form.specs.Values.{day_in, items_in, name_in, number_in, reason_in, word_in}
use Rattle.pb_form.specs.declared.column.Column as coded
use Rattle.pb_form.specs.declared.column.Holds as coded_holds
use Rattle.pb_form.specs.declared.column.Holds.TheVariants as taken
use Rattle.pb_form.specs.declared.fault.FormFault.{FormFault}
use Rattle.pb_form.specs.declared.fault.FormFault.TheVariants as fault
use Rattle.pb_form.proofs.ReadingLemmas.{field_err, field_ok, same_fault}

-- the value at a place
pub said_at : (columns : List coded.Column) (fields : List (List ℕ)) (place : ℕ) (d : coded.Column) → place < length columns → place < length fields
    → slice_get (values_said (map column_seen columns) fields) place ≡ Some (value_said (column_seen (get_or columns place d)) (get_or fields place []))
said_at [] fields place d there has = absurd (omega (arith, there))
said_at (column ∷ columns) [] place d there has = absurd (omega (arith, has))
said_at (column ∷ columns) (field ∷ fields) zero d there has = refl
said_at (column ∷ columns) (field ∷ fields) (suc place) d there has =
    let there' : place < length columns = omega (arith, there) in
    let has' : place < length fields = omega (arith, has) in
    said_at columns fields place d there' has'

-- there is a value for each column
pub count_said : (columns : List coded.Column) (fields : List (List ℕ)) → length columns ≤ length fields → length (values_said (map column_seen columns) fields) ≡ length columns
count_said [] fields fit = refl
count_said (column ∷ columns) [] fit = absurd (omega (arith, fit))
count_said (column ∷ columns) (field ∷ fields) fit = ap suc (count_said columns fields (omega (arith, fit)))

-- ---- faults

-- what was reported, and what wasn't
pub fault_told : {A : Type 0} (read : Result A FormFault) (fault : FormFault) → Some fault ≡ fault_in read → Err fault ≡ read
fault_told (Ok said) fault told = cc told
fault_told (Err other) fault told = cc told

pub none_told : (read : Result Value FormFault) → None ≡ fault_in read → Ok (value_in read) ≡ read
none_told (Ok value) told = refl
none_told (Err fault) told = cc told

pub none_left : (fault : Option FormFault) → ((told : FormFault) → fault ≡ Some told → ⊥) → None ≡ fault
none_left None never = refl
none_left (Some fault) never = absurd (never fault refl)

-- fields without a fault say their values
pub no_fault : (columns : List Column) (fields : List (List ℕ)) → None ≡ fault_in (fields_read columns fields) → Ok (values_said columns fields) ≡ fields_read columns fields
no_fault [] fields told = refl
no_fault (column ∷ columns) [] told = refl
no_fault (column ∷ columns) (field ∷ fields) told = by (field_read column field) (fields_read columns fields) (no_fault columns fields) told
  where
    by : (one : Result Value FormFault) (rest : Result (List Value) FormFault) → (None ≡ fault_in rest → Ok (values_said columns fields) ≡ rest)
        → None ≡ fault_in (read_before one rest) → Ok (value_in one ∷ values_said columns fields) ≡ read_before one rest
    by (Ok value) (Ok values) more told =
        let on : List Value → Result (List Value) FormFault = λ all. Ok (value ∷ all) in
        let same : values_said columns fields ≡ values = cc (more refl) in
        ap on same
    by (Ok value) (Err fault) more told = cc told
    by (Err fault) (Ok values) more told = cc told
    by (Err fault) (Err other) more told = cc told

-- one field and its column, of those that are left: it says something, or it has a fault
pub field_said : (columns : List coded.Column) (fields : List (List ℕ)) (i : ℕ) (d : coded.Column) (first : Option FormFault)
    → i < length columns → i < length fields → None ≡ fault_in (field_read (column_seen (get_or columns i d)) (get_or fields i []))
    → fault_in (joined (so_far first []) (fields_read (map column_seen (drop (i + 1) columns)) (drop (i + 1) fields)))
    ≡ fault_in (joined (so_far first []) (fields_read (map column_seen (drop i columns)) (drop i fields)))
field_said columns fields i d first there has told =
    let read = field_read (column_seen (get_or columns i d)) (get_or fields i []) in
    same_fault first [] (value_in read ∷ []) (fields_read (map column_seen (drop (i + 1) columns)) (drop (i + 1) fields))
    ∙ ap fault_in (field_ok columns fields i i d first [] (value_in read) there has (none_told read told))

pub field_faulty : (columns : List coded.Column) (fields : List (List ℕ)) (i : ℕ) (d : coded.Column) (first : Option FormFault) (fault : FormFault)
    → i < length columns → i < length fields → Some fault ≡ fault_in (field_read (column_seen (get_or columns i d)) (get_or fields i []))
    → fault_in (joined (so_far (Some (soonest first fault)) []) (fields_read (map column_seen (drop (i + 1) columns)) (drop (i + 1) fields)))
    ≡ fault_in (joined (so_far first []) (fields_read (map column_seen (drop i columns)) (drop i fields)))
field_faulty columns fields i d first fault there has told =
    ap fault_in (field_err columns fields i i d first [] fault there has (fault_told (field_read (column_seen (get_or columns i d)) (get_or fields i [])) fault told))

-- ---- what a column doesn't say

-- a value is one that such a column says, or nothing
abbrev pub IsLike : holds.Holds → Value → Type 0
IsLike takes value.Missing = Unit {0}
IsLike (holds.Word words) (value.Word place) = Unit {0}
IsLike holds.Name (value.Name text) = Unit {0}
IsLike holds.Reason (value.Reason text) = Unit {0}
IsLike (holds.Number lo hi) (value.Number z) = Unit {0}
IsLike holds.Date (value.Date day) = Unit {0}
IsLike holds.Items (value.Items text) = Unit {0}
IsLike takes other = ⊥

held_like : (takes : holds.Holds) (field : List ℕ) → IsLike takes (value_in (held_in takes field))
held_like (holds.Word words) field = by (position (bytes_eq field) words)
  where
    by : (o : Option ℕ) → IsLike (holds.Word words) (value_in (found value.Word fault.Word o))
    by None = tt
    by (Some place) = tt
held_like holds.Name field = by (is_name field)
  where
    by : (b : Bool) → IsLike holds.Name (value_in (if b then Ok (value.Name field) else Err fault.Name))
    by true = tt
    by false = tt
held_like holds.Reason field = by (is_reason field)
  where
    by : (b : Bool) → IsLike holds.Reason (value_in (if b then Ok (value.Reason field) else Err fault.Name))
    by true = tt
    by false = tt
held_like (holds.Number lo hi) field = by (within lo hi (number field))
  where
    by : (o : Option ℤ) → IsLike (holds.Number lo hi) (value_in (found value.Number fault.Number o))
    by None = tt
    by (Some z) = tt
held_like holds.Date field = by (day_of field)
  where
    by : (o : Option ℤ) → IsLike holds.Date (value_in (found value.Date fault.Date o))
    by None = tt
    by (Some day) = tt
held_like holds.Items field = tt

like : (column : Column) (field : List ℕ) → IsLike column.holds (value_said column field)
like column field = by (column.optional && (length field == 0))
  where
    by : (b : Bool) → IsLike column.holds (value_in (if b then Ok value.Missing else held_in column.holds field))
    by true = tt
    by false = held_like column.holds field

-- a column of another kind says no word, name, reason, number, day or list
pub no_word : (column : coded.Column) (field : List ℕ) → ((words : Bor (List (Bor (List ℕ)))) → column.holds ≡ taken.Word words → ⊥) → None ≡ word_in (value_said (column_seen column) field)
no_word column field other = by column.holds (value_said (column_seen column) field) other (like (column_seen column) field)
  where
    by : (takes : coded_holds.Holds) (v : Value) → ((words : Bor (List (Bor (List ℕ)))) → takes ≡ taken.Word words → ⊥) → IsLike (holds_seen takes) v → None ≡ word_in v
    by (taken.Word words) v other is = absurd (other words refl)
    by takes (value.Word place) other is = absurd is
    by takes v other is = refl

pub no_name : (column : coded.Column) (field : List ℕ) → (column.holds ≡ taken.Name → ⊥) → None ≡ name_in (value_said (column_seen column) field)
no_name column field other = by column.holds (value_said (column_seen column) field) other (like (column_seen column) field)
  where
    by : (takes : coded_holds.Holds) (v : Value) → (takes ≡ taken.Name → ⊥) → IsLike (holds_seen takes) v → None ≡ name_in v
    by taken.Name v other is = absurd (other refl)
    by takes (value.Name text) other is = absurd is
    by takes v other is = refl

pub no_reason : (column : coded.Column) (field : List ℕ) → (column.holds ≡ taken.Reason → ⊥) → None ≡ reason_in (value_said (column_seen column) field)
no_reason column field other = by column.holds (value_said (column_seen column) field) other (like (column_seen column) field)
  where
    by : (takes : coded_holds.Holds) (v : Value) → (takes ≡ taken.Reason → ⊥) → IsLike (holds_seen takes) v → None ≡ reason_in v
    by taken.Reason v other is = absurd (other refl)
    by takes (value.Reason text) other is = absurd is
    by takes v other is = refl

pub no_number : (column : coded.Column) (field : List ℕ) → ((lo hi : ℤ) → column.holds ≡ taken.Number lo hi → ⊥) → None ≡ number_in (value_said (column_seen column) field)
no_number column field other = by column.holds (value_said (column_seen column) field) other (like (column_seen column) field)
  where
    by : (takes : coded_holds.Holds) (v : Value) → ((lo hi : ℤ) → takes ≡ taken.Number lo hi → ⊥) → IsLike (holds_seen takes) v → None ≡ number_in v
    by (taken.Number lo hi) v other is = absurd (other lo hi refl)
    by takes (value.Number z) other is = absurd is
    by takes v other is = refl

pub no_day : (column : coded.Column) (field : List ℕ) → (column.holds ≡ taken.Date → ⊥) → None ≡ day_in (value_said (column_seen column) field)
no_day column field other = by column.holds (value_said (column_seen column) field) other (like (column_seen column) field)
  where
    by : (takes : coded_holds.Holds) (v : Value) → (takes ≡ taken.Date → ⊥) → IsLike (holds_seen takes) v → None ≡ day_in v
    by taken.Date v other is = absurd (other refl)
    by takes (value.Date day) other is = absurd is
    by takes v other is = refl

pub no_items : (column : coded.Column) (field : List ℕ) → (column.holds ≡ taken.Items → ⊥) → None ≡ items_in (value_said (column_seen column) field)
no_items column field other = by column.holds (value_said (column_seen column) field) other (like (column_seen column) field)
  where
    by : (takes : coded_holds.Holds) (v : Value) → (takes ≡ taken.Items → ⊥) → IsLike (holds_seen takes) v → None ≡ items_in v
    by taken.Items v other is = absurd (other refl)
    by takes (value.Items text) other is = absurd is
    by takes v other is = refl

-- ---- what a column says: an empty field writes no number

pub number_said : (optional : Bool) (field : List ℕ) (lo hi : ℤ)
    → within lo hi (number field) ≡ number_in (value_in (if optional && (length field == 0) then Ok value.Missing else found value.Number fault.Number (within lo hi (number field))))
number_said true [] lo hi = refl
number_said false [] lo hi = refl
number_said optional (b ∷ rest) lo hi = rw (told optional) (by (within lo hi (number (b ∷ rest))))
  where
    told : (optional : Bool) → (optional && (length (b ∷ rest) == 0)) ≡ false
    told true = ne_eqb (length (b ∷ rest)) 0 (λ e. absurd (omega (arith, e)))
    told false = refl

    by : (o : Option ℤ) → o ≡ number_in (value_in (found value.Number fault.Number o))
    by None = refl
    by (Some z) = refl
