-- Statement. What a field says by its column, or its fault.
use Rattle.std.specs.Prelude.{ℕ, ◌&&◌, ◌==◌, List, length, Result, Ok, Err, bytes_eq, position, if◌then◌else◌}
use Rattle.std.specs.Option.{ok_or, option_map}
use Rattle.pb_rows.specs.Date.{day_of}
use Rattle.pb_rows.specs.Name.{is_name}
use Rattle.pb_rows.specs.Number.{number, within}
use Rattle.pb_rows.specs.Reason.{is_reason}
use Rattle.pb_form.specs.Columns.{Column}
use Rattle.pb_form.specs.Holds.{Holds}
use Rattle.pb_form.specs.Holds as holds
use Rattle.pb_form.specs.Value.{Value, Missing, Word, Name, Reason, Number, Date, Items}
use Rattle.pb_form.specs.declared.fault.FormFault.{FormFault}
use Rattle.pb_form.specs.declared.fault.FormFault.TheVariants as fault

-- what a field says by what its column takes
abbrev pub held_in : Holds → List ℕ → Result Value FormFault
held_in (holds.Word words) field = ok_or (option_map Word (position (bytes_eq field) words)) fault.Word
held_in holds.Name field = if is_name field then Ok (Name field) else Err fault.Name
held_in holds.Reason field = if is_reason field then Ok (Reason field) else Err fault.Name
held_in (holds.Number lo hi) field = ok_or (option_map Number (within lo hi (number field))) fault.Number
held_in holds.Date field = ok_or (option_map Date (day_of field)) fault.Date
held_in holds.Items field = Ok (Items field)

-- What a field says by its column, or its fault.
abbrev pub field_read : Column → List ℕ → Result Value FormFault
field_read column field = if column.optional && (length field == 0) then Ok Missing else held_in column.holds field
