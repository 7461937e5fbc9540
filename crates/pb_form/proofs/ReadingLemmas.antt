-- Readings of parts of a row are joined one field at a time.
use Rattle.std.specs.Prelude.{map, Option, Some, None, Result, Ok, Err}
use Rattle.std.proofs.Common.{◌≡◌, ◌∙◌, ◌<◌, ◌≤◌, ◌+◌, ◌-◌, ℕ, zero, suc, List, [], ◌∷◌, ◌++◌, length, drop, get_or, refl, sym, ap, arith, add-one, append_assoc}
use Rattle.std.proofs.lemmas.Bool.Decides.{nat_tests}
use Rattle.std.proofs.lemmas.List.{append-nil, drop_all}
use Rattle.std.proofs.Math.Seq.{drop-cons}
use Rattle.pb_form.specs.Columns.{Column}
use Rattle.pb_form.specs.Field.{field_read}
use Rattle.pb_form.specs.Reading.{fields_read, repeated, sooner}
use Rattle.pb_form.specs.Seen.{column_seen}
use Rattle.pb_form.specs.Told.{fault_in, joined, read_before, so_far, soonest}
use Rattle.pb_form.specs.declared.column.Column as coded
use Rattle.pb_form.specs.Value.{Value}
use Rattle.pb_form.specs.declared.fault.FormFault.{FormFault}

-- the first of three faults
sooner_assoc : (a b c : FormFault) → sooner (sooner a b) c ≡ sooner a (sooner b c)
sooner_assoc a b c = grind (arith, nat_tests)

-- a field that says something
pub step_ok : (first : Option FormFault) (values : List Value) (value : Value) (rest : Result (List Value) FormFault)
    → joined (so_far first (values ++ value ∷ [])) rest ≡ joined (so_far first values) (read_before (Ok value) rest)
step_ok None values value (Ok more) =
    let ok : List Value → Result (List Value) FormFault = λ all. Ok all in ap ok (append_assoc values (value ∷ []) more)
step_ok None values value (Err fault) = refl
step_ok (Some fault) values value (Ok more) = refl
step_ok (Some fault) values value (Err other) = refl

-- a field with a fault
pub step_err : (first : Option FormFault) (values : List Value) (fault : FormFault) (rest : Result (List Value) FormFault)
    → joined (so_far (Some (soonest first fault)) values) rest ≡ joined (so_far first values) (read_before (Err fault) rest)
step_err None values fault (Ok more) = refl
step_err None values fault (Err other) = refl
step_err (Some before) values fault (Ok more) = refl
step_err (Some before) values fault (Err other) =
    let err : FormFault → Result (List Value) FormFault = λ first. Err first in ap err (sooner_assoc before fault other)

-- the faults of a part don't depend on the values before it
pub same_fault : (first : Option FormFault) (values others : List Value) (rest : Result (List Value) FormFault)
    → fault_in (joined (so_far first values) rest) ≡ fault_in (joined (so_far first others) rest)
same_fault None values others (Ok more) = refl
same_fault None values others (Err fault) = refl
same_fault (Some before) values others (Ok more) = refl
same_fault (Some before) values others (Err fault) = refl

-- one field and its column, of those that are left: it says something
pub field_ok : (columns : List coded.Column) (fields : List (List ℕ)) (i j : ℕ) (d : coded.Column) (first : Option FormFault) (values : List Value) (value : Value)
    → i < length columns → j < length fields → Ok value ≡ field_read (column_seen (get_or columns i d)) (get_or fields j [])
    → joined (so_far first (values ++ value ∷ [])) (fields_read (map column_seen (drop (i + 1) columns)) (drop (j + 1) fields))
    ≡ joined (so_far first values) (fields_read (map column_seen (drop i columns)) (drop j fields))
field_ok columns fields i j d first values value there has says =
    let rest = fields_read (map column_seen (drop (suc i) columns)) (drop (suc j) fields) in
    rw (add-one i, add-one j, drop-cons columns i d there, drop-cons fields j [] has, ← says) (step_ok first values value rest)

-- it has a fault
pub field_err : (columns : List coded.Column) (fields : List (List ℕ)) (i j : ℕ) (d : coded.Column) (first : Option FormFault) (values : List Value) (fault : FormFault)
    → i < length columns → j < length fields → Err fault ≡ field_read (column_seen (get_or columns i d)) (get_or fields j [])
    → joined (so_far (Some (soonest first fault)) values) (fields_read (map column_seen (drop (i + 1) columns)) (drop (j + 1) fields))
    ≡ joined (so_far first values) (fields_read (map column_seen (drop i columns)) (drop j fields))
field_err columns fields i j d first values fault there has says =
    let rest = fields_read (map column_seen (drop (suc i) columns)) (drop (suc j) fields) in
    rw (add-one i, add-one j, drop-cons columns i d there, drop-cons fields j [] has, ← says) (step_err first values fault rest)

-- all fields are read, without a fault
pub all_read : (columns : List coded.Column) (fields : List (List ℕ)) (i : ℕ) (first : Option FormFault) (values : List Value) → first ≡ None → length columns ≤ i
    → Ok values ≡ joined (so_far first values) (fields_read (map column_seen (drop i columns)) (drop i fields))
all_read columns fields i first values none ended =
    let ok : List Value → Result (List Value) FormFault = λ all. Ok all in
    rw (none, drop_all i columns ended) (ap ok (sym (append-nil values)))

-- ---- the fields of a tail

-- one field of a tail says something
pub tail_ok : (whole : List Column) (tail : List coded.Column) (fields : List (List ℕ)) (place i : ℕ) (d : coded.Column) (first : Option FormFault) (value : Value)
    → place < length tail → i < length fields → Ok value ≡ field_read (column_seen (get_or tail place d)) (get_or fields i [])
    → fault_in (joined (so_far first []) (fields_read (repeated whole (map column_seen (drop (place + 1) tail)) (length fields - (i + 1))) (drop (i + 1) fields)))
    ≡ fault_in (joined (so_far first []) (fields_read (repeated whole (map column_seen (drop place tail)) (length fields - i)) (drop i fields)))
tail_ok whole tail fields place i d first value there has says =
    let left = length fields - suc i in
    let rest = fields_read (repeated whole (map column_seen (drop (suc place) tail)) left) (drop (suc i) fields) in
    let more : length fields - i ≡ suc left = omega arith in
    rw (add-one i, add-one place, more, drop-cons tail place d there, drop-cons fields i [] has, ← says)
    (same_fault first [] (value ∷ []) rest ∙ ap fault_in (step_ok first [] value rest))

-- it has a fault
pub tail_err : (whole : List Column) (tail : List coded.Column) (fields : List (List ℕ)) (place i : ℕ) (d : coded.Column) (first : Option FormFault) (fault : FormFault)
    → place < length tail → i < length fields → Err fault ≡ field_read (column_seen (get_or tail place d)) (get_or fields i [])
    → fault_in (joined (so_far (Some (soonest first fault)) []) (fields_read (repeated whole (map column_seen (drop (place + 1) tail)) (length fields - (i + 1))) (drop (i + 1) fields)))
    ≡ fault_in (joined (so_far first []) (fields_read (repeated whole (map column_seen (drop place tail)) (length fields - i)) (drop i fields)))
tail_err whole tail fields place i d first fault there has says =
    let left = length fields - suc i in
    let rest = fields_read (repeated whole (map column_seen (drop (suc place) tail)) left) (drop (suc i) fields) in
    let more : length fields - i ≡ suc left = omega arith in
    rw (add-one i, add-one place, more, drop-cons tail place d there, drop-cons fields i [] has, ← says)
    (ap fault_in (step_err first [] fault rest))

-- a turn of a tail that has ended is the next one that begins
pub next_turn : (tail : List coded.Column) (place n : ℕ) → place < length tail → length tail ≤ place + 1
    → repeated (map column_seen tail) (map column_seen (drop 0 tail)) n ≡ repeated (map column_seen tail) (map column_seen (drop (place + 1) tail)) n
next_turn tail place n there last = rw (drop_all (place + 1) tail last) (begins tail n (omega (arith, there)))
  where
    begins : (all : List coded.Column) (n : ℕ) → 0 < length all → repeated (map column_seen all) (map column_seen (drop 0 all)) n ≡ repeated (map column_seen all) [] n
    begins all zero some = refl
    begins [] (suc n) some = absurd (omega (arith, some))
    begins (column ∷ all) (suc n) some = refl
