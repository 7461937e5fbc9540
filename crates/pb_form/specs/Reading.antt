-- Statement. A row read by its columns: the value of each field, or the first fault in one order of faults.
use Rattle.std.specs.Prelude.{ℕ, zero, suc, ◌-◌, ◌%◌, ◌==◌, ◌&&◌, nat_le, nat_lt, Bool, List, [], ◌∷◌, length, drop, Result, Ok, Err, if◌then◌else◌}
use Rattle.pb_form.specs.Columns.{Column, Schema}
use Rattle.pb_form.specs.Field.{field_read}
use Rattle.pb_form.specs.Value.{Value}
use Rattle.pb_form.specs.declared.fault.FormFault.{FormFault}
use Rattle.pb_form.specs.declared.fault.FormFault.TheVariants.{Kind, Fields, Name, Number, Date, Word}

-- the order of faults
abbrev pub order_of : FormFault → ℕ
order_of Kind = 0
order_of Fields = 1
order_of Name = 2
order_of Number = 3
order_of Date = 4
order_of Word = 5

-- the first of two faults
abbrev pub sooner : FormFault → FormFault → FormFault
sooner one other = if nat_lt (order_of other) (order_of one) then other else one

-- what two parts of a row say together, or the first fault of either
abbrev pub both_read : {A B C : Type 0} → (A → B → C) → Result A FormFault → Result B FormFault → Result C FormFault
both_read join (Ok one) (Ok other) = Ok (join one other)
both_read join (Ok one) (Err fault) = Err fault
both_read join (Err fault) (Ok other) = Err fault
both_read join (Err fault) (Err other) = Err (sooner fault other)

-- the value of each field by its column, or the first fault of the fields
abbrev pub fields_read : List Column → List (List ℕ) → Result (List Value) FormFault
fields_read (column ∷ columns) (field ∷ fields) =
    both_read (λ value values. value ∷ values) (field_read column field) (fields_read columns fields)
fields_read columns fields = Ok []

-- n columns: the rest of a tail, and then the columns of the tail, repeated
abbrev pub repeated : List Column → List Column → ℕ → List Column
repeated tail rest zero = []
repeated tail (column ∷ rest) (suc n) = column ∷ repeated tail rest n
repeated (column ∷ tail) [] (suc n) = column ∷ repeated (column ∷ tail) tail n
repeated [] [] (suc n) = []

-- what the fields after the columns of a schema say, by the columns of its tail, repeated
abbrev pub tail_read : Schema → List (List ℕ) → Result (List Value) FormFault
tail_read schema fields =
    fields_read (repeated schema.tail [] (length fields - length schema.columns)) (drop (length schema.columns) fields)

-- n fields make up whole turns of a tail
abbrev pub are_turns : List Column → ℕ → Bool
are_turns tail n = if length tail == 0 then n == 0 else n % length tail == 0

-- a row of a schema has this number of fields: one for each column, and whole turns of the tail
abbrev pub has_count : Schema → ℕ → Bool
has_count schema n = nat_le (length schema.columns) n && are_turns schema.tail (n - length schema.columns)

-- The value of each column of a schema in the fields of a row, or the row's first fault: the number of fields, or the first of the
-- faults of the single fields, including the fields of the tail.
abbrev pub row_read : Schema → List (List ℕ) → Result (List Value) FormFault
row_read schema fields =
    if has_count schema (length fields)
    then both_read (λ values rest. values) (fields_read schema.columns fields) (tail_read schema fields)
    else Err Fields
