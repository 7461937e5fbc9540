-- Inside. The fault that a reading reports, readings in progress, and the place of a row's schema.
use Rattle.std.specs.Prelude.{ℕ, List, ◌∷◌, ◌++◌, Option, Some, None, Result, Ok, Err, position, if◌then◌else◌}
use Rattle.std.specs.List.{list_any}
use Rattle.std.specs.Option.{ok_or}
use Rattle.pb_form.specs.Columns.{Schema}
use Rattle.pb_form.specs.Reading.{both_read, sooner}
use Rattle.pb_form.specs.Telling.{agrees, is_of}
use Rattle.pb_form.specs.Value.{Value}
use Rattle.pb_form.specs.declared.fault.FormFault.{FormFault}
use Rattle.pb_form.specs.declared.fault.FormFault.TheVariants as fault

-- the fault of a reading, if it has one
abbrev pub fault_in : {A : Type 0} → Result A FormFault → Option FormFault
fault_in (Ok said) = None
fault_in (Err fault) = Some fault

-- the first of the faults so far and another one
abbrev pub soonest : Option FormFault → FormFault → FormFault
soonest None fault = fault
soonest (Some first) fault = sooner first fault

-- the values so far, unless there was a fault
abbrev pub so_far : Option FormFault → List Value → Result (List Value) FormFault
so_far None values = Ok values
so_far (Some fault) values = Err fault

-- the values of two parts of a row, or the first fault of either
abbrev pub joined : Result (List Value) FormFault → Result (List Value) FormFault → Result (List Value) FormFault
joined front rest = both_read (λ front rest. front ++ rest) front rest

-- the value of a field before the values of others
abbrev pub read_before : Result Value FormFault → Result (List Value) FormFault → Result (List Value) FormFault
read_before one rest = both_read (λ value values. value ∷ values) one rest

-- why a row is of no schema: none has its words, or none with its words has its number of fields
abbrev pub untold : List Schema → List (List ℕ) → FormFault
untold schemas fields = if list_any (λ schema. agrees schema.columns fields) schemas then fault.Fields else fault.Kind

-- the place of the first schema that a row is of, or why there is none
abbrev pub schema_told : List Schema → List (List ℕ) → Result ℕ FormFault
schema_told schemas fields = ok_or (position (is_of fields) schemas) (untold schemas fields)
