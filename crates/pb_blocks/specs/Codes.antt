-- Statement. The numbers of the faults of a row; the lowest is reported.
use Rattle.std.specs.Prelude.{ℕ, nat_lt, Option, Some, None, if◌then◌else◌}
use Rattle.pb_form.specs.declared.fault.FormFault.{FormFault}
use Rattle.pb_form.specs.declared.fault.FormFault.TheVariants as form
use Rattle.pb_blocks.specs.declared.fault.RowFault.{RowFault}
use Rattle.pb_blocks.specs.declared.fault.RowFault.TheVariants.{Kind, Fields, Name, Number, Unknown, Duplicate, Word, Shape, Count, Env, Ended}

-- the number of a fault
abbrev pub row_fault_code : RowFault → ℕ
row_fault_code Kind = 1
row_fault_code Fields = 2
row_fault_code Name = 3
row_fault_code Number = 4
row_fault_code Unknown = 5
row_fault_code Duplicate = 6
row_fault_code Word = 7
row_fault_code Shape = 8
row_fault_code Count = 9
row_fault_code Env = 10
row_fault_code Ended = 11

-- the fault of a row of a block for a fault of its form; no row of a block has a date
abbrev pub fault_by : FormFault → RowFault
fault_by form.Kind = Kind
fault_by form.Fields = Fields
fault_by form.Name = Name
fault_by form.Word = Word
fault_by fault = Number

-- the lower of two faults, if there are any
abbrev pub lowest : Option RowFault → Option RowFault → Option RowFault
lowest None other = other
lowest (Some one) None = Some one
lowest (Some one) (Some other) = Some (if nat_lt (row_fault_code other) (row_fault_code one) then other else one)
