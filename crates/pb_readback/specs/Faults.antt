-- Statement. When a row of a block can't be read, after the rows before it. Of all its faults the lowest is reported.
use Rattle.std.specs.Prelude.{ℕ, ◌==◌, ◌&&◌, not, List, length, Option, Some, None, if◌then◌else◌, codes, bytes_eq, position}
use Rattle.std.specs.Option.{option_map}
use Rattle.std.specs.Result.{result_err}
use Rattle.pb_rows.specs.Name.{same_name}
use Rattle.pb_form.specs.OutputRows.{output_schema}
use Rattle.pb_form.specs.Reading.{row_read}
use Rattle.pb_form.specs.declared.output.OutputKind.{OutputKind}
use Rattle.pb_form.specs.declared.output.OutputKind.TheVariants.{Node, Stream, StreamBefore, Nodal, Measure, End}
use Rattle.pb_blocks.specs.declared.fault.RowFault.{RowFault}
use Rattle.pb_blocks.specs.declared.fault.RowFault.TheVariants.{Number, Unknown, Duplicate, Shape, Count, Env}
use Rattle.pb_blocks.specs.Beside.{fault_as, has_bad_list, has_unknown_node, is_half_told, is_round}
use Rattle.pb_blocks.specs.Codes.{lowest, fault_by}
use Rattle.pb_blocks.specs.Kinds.{kind_among}
use Rattle.pb_blocks.specs.Lists.{is_among}
use Rattle.pb_blocks.specs.Results.{has_unknown_part}
use Rattle.pb_blocks.specs.Texts.{name_field, field}
use Rattle.pb_readback.specs.declared.draft.Draft.{Draft}
use Rattle.pb_readback.specs.Drafts.{kinds_next}

-- the lowest fault of a stream's row besides the faults of its form: just one of two columns that belong together is left out; an end
-- or a node of the side isn't a node of the block; an earlier stream has the name; the side or the parts don't have their form; or
-- the stream leads from a node to itself
abbrev pub stream_fault : OutputKind → Draft → List (List ℕ) → Option RowFault
stream_fault kind draft row =
    if is_half_told kind row then Some Number
    else if has_unknown_node draft.nodes kind row then Some Unknown
    else if is_among draft.streams (name_field row) then Some Duplicate
    else if has_bad_list draft.nodes kind row then Some Shape
    else if same_name (field row 2) (field row 3) then Some Count
    else None

-- The lowest fault of a row of a kind besides the faults of its form. A node's name must be new, and the first node must be the
-- environment; a test must be of a node or a stream of the block; the end must have the block's period and round.
abbrev pub fault_beside : OutputKind → Draft → List (List ℕ) → Option RowFault
fault_beside Node draft row =
    if is_among draft.nodes (name_field row) then Some Duplicate
    else if (length draft.nodes == 0) && not (bytes_eq (name_field row) (codes "env")) then Some Env
    else None
fault_beside Stream draft row = stream_fault Stream draft row
fault_beside StreamBefore draft row = stream_fault StreamBefore draft row
fault_beside Nodal draft row = if is_among draft.nodes (name_field row) then None else Some Unknown
fault_beside Measure draft row = if is_among draft.streams (name_field row) then None else Some Unknown
fault_beside End draft row =
    if same_name (name_field row) draft.heading.period && is_round row draft.heading.round then None else Some Unknown
fault_beside kind draft row = None

-- The lowest fault of a row of a kind that may come next.
abbrev pub row_fault_of : OutputKind → Draft → List (List ℕ) → Option RowFault
row_fault_of kind draft row =
    lowest (option_map fault_by (result_err (row_read (output_schema kind) row))) (fault_beside kind draft row)

-- The lowest fault of a row after the heading and the rows of a draft.
abbrev pub fault_behind : Draft → List (List ℕ) → Option RowFault
fault_behind draft row = fault_as (λ kind. row_fault_of kind draft row) (kind_among (kinds_next draft) row)

-- the first stream of a block whose parts name an unknown stream, once all streams are read
abbrev pub first_unknown : Draft → Option ℕ
first_unknown draft =
    if length draft.streams == draft.heading.streams then position (has_unknown_part draft.streams) draft.rows else None
