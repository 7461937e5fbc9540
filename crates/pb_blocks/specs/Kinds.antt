-- Statement. The kind of a row among those that may be at some place, and the rows that are skipped between blocks.
use Rattle.std.specs.Prelude.{ℕ, Bool, List, [], ◌∷◌, Result}
use Rattle.std.specs.List.{list_any}
use Rattle.std.specs.Result.{result_map_both}
use Rattle.pb_form.specs.OutputRows.{output_columns, output_schema}
use Rattle.pb_form.specs.Telling.{agrees, kind_told}
use Rattle.pb_form.specs.declared.output.OutputKind.{OutputKind}
use Rattle.pb_form.specs.declared.output.OutputKind.TheVariants.{Advise, Class, Component, Design, Edit, History, Meter, Over, Place, Refused, Stop, Taken, Window}
use Rattle.pb_blocks.specs.declared.fault.RowFault.{RowFault}
use Rattle.pb_blocks.specs.Codes.{fault_by}

-- The kind of a row among these, or its fault: the row has the word of one of these kinds and another number of fields, or the word of
-- none.
abbrev pub kind_among : List OutputKind → List (List ℕ) → Result OutputKind RowFault
kind_among kinds row = result_map_both (λ kind. kind) fault_by (kind_told output_schema kinds row)

-- the kinds of rows that are skipped between blocks: a report may be among the other rows of a session's output
abbrev pub passed_kinds : List OutputKind
passed_kinds =
    Refused ∷ Over ∷ Design ∷ Class ∷ History ∷ Edit ∷ Taken ∷ Stop ∷ Advise ∷ Meter ∷ Window ∷ Place ∷ Component ∷ []

-- a row that is skipped between blocks, whatever its other fields are
abbrev pub is_passed_over : List (List ℕ) → Bool
is_passed_over row = list_any (λ kind. agrees (output_columns kind) row) passed_kinds
