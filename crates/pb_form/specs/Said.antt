-- Inside. The values of fields that say something by their columns.
use Rattle.std.specs.Prelude.{ℕ, Bool, List, [], ◌∷◌, Option, Result, Ok, Err, if◌then◌else◌}
use Rattle.std.specs.Option.{ok_or, option_map}
use Rattle.pb_form.specs.Columns.{Column}
use Rattle.pb_form.specs.Field.{field_read}
use Rattle.pb_form.specs.Value.{Value, Missing}
use Rattle.pb_form.specs.declared.fault.FormFault.{FormFault}

-- a value of what was found, or this fault
abbrev pub found : {A : Type 0} → (A → Value) → FormFault → Option A → Result Value FormFault
found value bad option = ok_or (option_map value option) bad

-- the value of a field that has a form, or this fault
abbrev pub formed : (List ℕ → Bool) → (List ℕ → Value) → FormFault → List ℕ → Result Value FormFault
formed is_form value bad field = if is_form field then Ok (value field) else Err bad

-- what is said, or nothing if it is a fault
abbrev pub value_in : Result Value FormFault → Value
value_in (Ok value) = value
value_in (Err fault) = Missing

-- what a field says by its column
abbrev pub value_said : Column → List ℕ → Value
value_said column field = value_in (field_read column field)

-- what fields say, one for each column
abbrev pub values_said : List Column → List (List ℕ) → List Value
values_said (column ∷ columns) (field ∷ fields) = value_said column field ∷ values_said columns fields
values_said columns fields = []
