-- The parts of the streams of a draft are signs with names.
use Rattle.std.specs.Prelude.{not, bytes_eq, ◌&&◌, ◌||◌, Result, Ok, Err, if◌then◌else◌}
use Rattle.std.specs.List.{list_all}
use Rattle.std.proofs.Common.{◌≡◌, ◌∙◌, ℕ, List, [], ◌∷◌, ◌++◌, Bool, true, false, Some, None, codes, refl}
use Rattle.std.proofs.lemmas.Bool.{and_from}
use Rattle.pb_form.specs.declared.output.OutputKind.{OutputKind}
use Rattle.pb_form.specs.declared.output.OutputKind.TheVariants.{Stream, StreamBefore}
use Rattle.pb_form.specs.OutputRows.{output_schema}
use Rattle.pb_form.specs.Reading.{row_read}
use Rattle.pb_blocks.specs.declared.fault.RowFault.{RowFault}
use Rattle.pb_blocks.specs.declared.fault.RowFault.TheVariants.{Number, Unknown, Duplicate, Shape, Count}
use Rattle.pb_blocks.specs.Beside.{has_bad_list, has_unknown_node, is_half_told}
use Rattle.pb_blocks.specs.Kinds.{kind_among}
use Rattle.pb_blocks.specs.Lists.{is_among, is_part, is_side, items}
use Rattle.pb_blocks.specs.Texts.{field, is_blank, name_field, parts_field, place_after, side_field}
use Rattle.pb_blocks.specs.Held.{leads_to_itself, form_fault}
use Rattle.pb_blocks.specs.Values.{said_stream, values_in}
use Rattle.pb_blocks.proofs.NameLemmas.{all_more}
use Rattle.pb_readback.specs.declared.draft.Draft.{Draft}
use Rattle.pb_readback.specs.Drafts.{draft_with_row, kinds_next}
use Rattle.pb_readback.specs.Faults.{fault_behind, fault_beside}
use Rattle.pb_readback.specs.Reading.{HaveParts, has_parts, told_with}
use Rattle.pb_readback.proofs.FormedLemmas.{none_lowest}
use Rattle.pb_readback.proofs.ReadingLemmas.{fault_if, told_if}

fourth_of_five : (a b c d e : Bool)
    → (if a then Some Number else if b then Some Unknown else if c then Some Duplicate else if d then Some Shape else if e then Some Count else None) ≡ None
    → d ≡ false
fourth_of_five true b c d e is = cc is
fourth_of_five false true c d e is = cc is
fourth_of_five false false true d e is = cc is
fourth_of_five false false false true e is = cc is
fourth_of_five false false false false e is = refl

last_of_three : (a b c : Bool) → (a || b || not c) ≡ false → c ≡ true
last_of_three true b c is = cc is
last_of_three false true c is = cc is
last_of_three false false true is = refl
last_of_three false false false is = cc is

-- a stream without a fault has parts
fine_parts : (draft : Draft) (kind : OutputKind) (row : List (List ℕ)) → has_bad_list draft.nodes kind row ≡ false
    → has_parts (said_stream draft.nodes kind row (values_in kind row)) ≡ true
fine_parts draft kind row fine =
    last_of_three (not (is_side draft.nodes (items (side_field kind row)))) (bytes_eq (field row (place_after kind 12)) (codes "cycle") && not (is_blank (side_field kind row)))
    (list_all is_part (items (parts_field kind row))) fine

more_parts : (draft : Draft) (kind : OutputKind) (row : List (List ℕ)) → HaveParts draft → has_bad_list draft.nodes kind row ≡ false
    → list_all has_parts (draft.rows ++ said_stream draft.nodes kind row (values_in kind row) ∷ []) ≡ true
more_parts draft kind row have fine =
    all_more has_parts draft.rows (said_stream draft.nodes kind row (values_in kind row)) ∙ and_from _ _ have (fine_parts draft kind row fine)

parts_by : (draft : Draft) (kind : OutputKind) (row : List (List ℕ)) → HaveParts draft → fault_beside kind draft row ≡ None → HaveParts (told_with kind draft row)
parts_by draft Stream row have none =
    more_parts draft Stream row have
    (fourth_of_five (is_half_told Stream row) (has_unknown_node draft.nodes Stream row) (is_among draft.streams (name_field row)) (has_bad_list draft.nodes Stream row) (leads_to_itself row) none)
parts_by draft StreamBefore row have none =
    more_parts draft StreamBefore row have
    (fourth_of_five (is_half_told StreamBefore row) (has_unknown_node draft.nodes StreamBefore row) (is_among draft.streams (name_field row)) (has_bad_list draft.nodes StreamBefore row)
    (leads_to_itself row) none)
parts_by draft kind row have none = have

-- they still are after a row without a fault
pub still_parts : (draft after : Draft) (row : List (List ℕ)) → HaveParts draft → fault_behind draft row ≡ None → after ≡ draft_with_row draft row → HaveParts after
still_parts draft after row have fine told = rw told (by (kind_among (kinds_next draft) row) fine)
  where
    by : (kind : Result OutputKind RowFault) → fault_if kind draft row ≡ None → HaveParts (told_if kind draft row)
    by (Err fault) none = cc none
    by (Ok kind) none = parts_by draft kind row have (none_lowest (form_fault (row_read (output_schema kind) row)) (fault_beside kind draft row) none).1
