-- When a row of each kind has no fault, and what it says.
use Rattle.std.specs.Prelude.{◌&&◌, not, ◌==◌, codes, bytes_eq, int_le, int_lt, Result, Ok, if◌then◌else◌}
use Rattle.std.specs.Result.{result_unwrap_or}
use Rattle.std.proofs.Common.{◌≡◌, ◌∙◌, ℕ, ℤ, pos, List, [], ◌∷◌, length, Bool, true, false, Option, Some, None, refl, ap, ap₂, arith}
use Rattle.std.proofs.lemmas.Int.{ints}
use Rattle.pb_limits.specs.Limits.{most_nodes, most_streams}
use Rattle.pb_rows.specs.declared.name.Names.{Names}
use Rattle.pb_study.specs.declared.results.GlobalTest.{GlobalTest}
use Rattle.pb_study.specs.declared.results.MeasureTest.{MeasureTest}
use Rattle.pb_study.specs.declared.results.NodalTest.{NodalTest}
use Rattle.pb_study.specs.declared.results.Stage.{Stage}
use Rattle.pb_form.specs.OutputRows.{output_columns, output_schema}
use Rattle.pb_form.specs.Reading.{row_read}
use Rattle.pb_form.specs.TextLaws.{TextLaw}
use Rattle.pb_form.specs.Value.{Value}
use Rattle.pb_form.specs.Writing.{FitEach}
use Rattle.pb_form.specs.declared.fault.FormFault.{FormFault}
use Rattle.pb_form.specs.declared.output.OutputKind.{OutputKind}
use Rattle.pb_form.specs.declared.output.OutputKind.TheVariants.{Report, Node, Stream, StreamBefore, Solved, Global, Nodal, Measure, End}
use Rattle.pb_report.specs.Block.{end_row, node_row, solved_row}
use Rattle.pb_report.specs.Row.{OutputRow, fields_of}
use Rattle.pb_report.specs.Tests.{global_row, measure_row, nodal_row}
use Rattle.pb_blocks.specs.declared.fault.RowFault.{RowFault}
use Rattle.pb_blocks.specs.declared.fault.RowFault.TheVariants.{Unknown, Duplicate, Shape, Count}
use Rattle.pb_blocks.specs.Beside.{are_miscounted, has_bad_list, has_unknown_node, heading_fault, is_half_told, opening_fault}
use Rattle.pb_blocks.specs.Held.{leads_to_itself, form_fault}
use Rattle.pb_blocks.specs.Codes.{lowest}
use Rattle.pb_blocks.specs.Kinds.{kind_among}
use Rattle.pb_blocks.specs.Lists.{is_among}
use Rattle.pb_blocks.specs.Texts.{name_field}
use Rattle.pb_blocks.specs.Values.{values_in}
use Rattle.pb_form.specs.Values.{number_at}
use Rattle.pb_readback.specs.declared.draft.Draft.{Draft}
use Rattle.pb_readback.specs.Drafts.{draft_with_row, kinds_after, kinds_next, stream_kinds}
use Rattle.pb_readback.specs.Reading.{told_with, AwaitsNodes, AwaitsStreams, HasAll}
use Rattle.pb_readback.specs.Faults.{fault_behind, fault_beside}
use Rattle.pb_readback.proofs.ReadingLemmas.{fault_if, is_row_of, opening_by, told_if}

-- ---- a row reads as its values

-- a row whose values fit its columns reads as them
pub row_back : TextLaw → (row : OutputRow) → FitEach (output_columns row.kind) row.values → row_read (output_schema row.kind) (fields_of row) ≡ Ok row.values
row_back texts row fit = texts (output_schema row.kind) row.values fit

-- and its values are these
pub values_back : (kind : OutputKind) (fields : List (List ℕ)) (values : List Value) → row_read (output_schema kind) fields ≡ Ok values → values_in kind fields ≡ values
values_back kind fields values read = ap (λ (r : Result (List Value) FormFault). result_unwrap_or r []) read

-- ---- a row without a fault

-- a row of a kind that may come, which reads as values and has no fault besides its form
pub record IsSoundRow (draft : Draft) (kind : OutputKind) (row : List (List ℕ)) (values : List Value) : Type 0 where
  pub told : kind_among (kinds_next draft) row ≡ Ok kind
  pub read : row_read (output_schema kind) row ≡ Ok values
  pub beside : fault_beside kind draft row ≡ None

pub row_sound : (draft : Draft) (kind : OutputKind) (row : List (List ℕ)) (values : List Value) → IsSoundRow draft kind row values → fault_behind draft row ≡ None
row_sound draft kind row values sound =
    ap (λ (k : Result OutputKind RowFault). fault_if k draft row) sound.told
    ∙ ap₂ (λ (r : Result (List Value) FormFault) (b : Option RowFault). lowest (form_fault r) b) sound.read sound.beside

pub row_leaves : (draft : Draft) (kind : OutputKind) (row : List (List ℕ)) (values : List Value) → IsSoundRow draft kind row values → draft_with_row draft row ≡ told_with kind draft row
row_leaves draft kind row values sound = ap (λ (k : Result OutputKind RowFault). told_if k draft row) sound.told

-- ---- which kinds may come

pub told_node : (draft : Draft) (row : List (List ℕ)) → AwaitsNodes draft → is_row_of row Node ≡ true → kind_among (kinds_next draft) row ≡ Ok Node
told_node draft row may is = rw (may, is) refl

-- rows of streams with least bounds may stand in a block after a row of this kind
abbrev pub takes_least : OutputKind → Bool
takes_least StreamBefore = false
takes_least kind = true

least_told : (last : OutputKind) (row : List (List ℕ)) → takes_least last ≡ true → is_row_of row Stream ≡ true → kind_among (stream_kinds last) row ≡ Ok Stream
least_told StreamBefore row takes is = cc takes
least_told Stream row takes is = rw is refl
least_told last row takes is = rw is refl

pub told_stream : (draft : Draft) (row : List (List ℕ)) → AwaitsStreams draft → takes_least draft.last ≡ true → is_row_of row Stream ≡ true → kind_among (kinds_next draft) row ≡ Ok Stream
told_stream draft row may takes is = rw (may.0, may.1) (least_told draft.last row takes is)

-- a row of the second kind may follow a row of the first kind after the last stream
abbrev pub may_follow : OutputKind → OutputKind → Bool
may_follow Report Solved = true
may_follow Node Solved = true
may_follow Stream Solved = true
may_follow StreamBefore Solved = true
may_follow Solved Global = true
may_follow Solved End = true
may_follow Global Nodal = true
may_follow Global Measure = true
may_follow Global End = true
may_follow Nodal Nodal = true
may_follow Nodal Measure = true
may_follow Nodal End = true
may_follow Measure Measure = true
may_follow Measure End = true
may_follow last kind = false

-- after all nodes and streams
pub told_behind : (draft : Draft) (kind : OutputKind) (row : List (List ℕ)) → HasAll draft → kind_among (kinds_after draft.last) row ≡ Ok kind → kind_among (kinds_next draft) row ≡ Ok kind
told_behind draft kind row all told = rw (all.0, all.1) told

pub solved_after : (last : OutputKind) (stage : Stage) → may_follow last Solved ≡ true → kind_among (kinds_after last) (fields_of (solved_row stage)) ≡ Ok Solved
solved_after Report stage follows = refl
solved_after Node stage follows = refl
solved_after Stream stage follows = refl
solved_after StreamBefore stage follows = refl
solved_after last stage follows = cc follows

pub global_after : (last : OutputKind) (test : GlobalTest) → may_follow last Global ≡ true → kind_among (kinds_after last) (fields_of (global_row test)) ≡ Ok Global
global_after Solved test follows = refl
global_after last test follows = cc follows

pub nodal_after : (last : OutputKind) (names : Names) (test : NodalTest) → may_follow last Nodal ≡ true → kind_among (kinds_after last) (fields_of (nodal_row names test)) ≡ Ok Nodal
nodal_after Global names test follows = refl
nodal_after Nodal names test follows = refl
nodal_after last names test follows = cc follows

pub measure_after : (last : OutputKind) (names : Names) (test : MeasureTest) → may_follow last Measure ≡ true → kind_among (kinds_after last) (fields_of (measure_row names test)) ≡ Ok Measure
measure_after Global names test follows = refl
measure_after Nodal names test follows = refl
measure_after Measure names test follows = refl
measure_after last names test follows = cc follows

pub end_after : (last : OutputKind) (period : List ℕ) (round : ℕ) → may_follow last End ≡ true → kind_among (kinds_after last) (fields_of (end_row period round)) ≡ Ok End
end_after Solved period round follows = refl
end_after Global period round follows = refl
end_after Nodal period round follows = refl
end_after Measure period round follows = refl
end_after last period round follows = cc follows

-- ---- the faults besides the form

-- the row that opens a block
pub record IsHeadingRow (row : List (List ℕ)) (values : List Value) : Type 0 where
  pub told : kind_among (Report ∷ []) row ≡ Ok Report
  pub read : row_read (output_schema Report) row ≡ Ok values
  pub some_node : int_le (pos 1) (number_at values 3) ≡ true
  pub most_node : int_le (number_at values 3) (pos most_nodes) ≡ true
  pub some_stream : int_le (pos 0) (number_at values 4) ≡ true
  pub most_stream : int_le (number_at values 4) (pos most_streams) ≡ true

not_less : (x z : ℤ) → int_le x z ≡ true → int_lt z x ≡ false
not_less x z at_least = grind (arith, ints, at_least)

pub heading_opens : (row : List (List ℕ)) (values : List Value) → IsHeadingRow row values → opening_fault row ≡ None
heading_opens row values h =
    ap (λ (kind : Result OutputKind RowFault). opening_by kind row) h.told ∙ ap heading_fault h.read ∙ counted (number_at values 3) (number_at values 4)
    (not_less (pos 1) (number_at values 3) h.some_node) (not_less (number_at values 3) (pos most_nodes) h.most_node)
    (not_less (pos 0) (number_at values 4) h.some_stream) (not_less (number_at values 4) (pos most_streams) h.most_stream)
  where
    counted : (nodes streams : ℤ) → int_lt nodes (pos 1) ≡ false → int_lt (pos most_nodes) nodes ≡ false → int_lt streams (pos 0) ≡ false → int_lt (pos most_streams) streams ≡ false
        → (if are_miscounted nodes streams then (let o : Option RowFault = Some Count in o) else None) ≡ None
    counted nodes streams a b c d = rw (a, b, c, d) refl

-- the row of a node
pub record IsNodeFine (draft : Draft) (name : List ℕ) : Type 0 where
  pub new : is_among draft.nodes name ≡ false
  pub env : ((length draft.nodes == 0) && not (bytes_eq name (codes "env"))) ≡ false

pub node_beside : (draft : Draft) (name : List ℕ) (price : ℤ) → IsNodeFine draft name → fault_beside Node draft (fields_of (node_row name price)) ≡ None
node_beside draft name price h = rw (h.new, h.env) refl

-- the row of a stream
pub record IsStreamFine (draft : Draft) (row : List (List ℕ)) : Type 0 where
  pub whole : is_half_told Stream row ≡ false
  pub known : has_unknown_node draft.nodes Stream row ≡ false
  pub new : is_among draft.streams (name_field row) ≡ false
  pub good : has_bad_list draft.nodes Stream row ≡ false
  pub apart : leads_to_itself row ≡ false

pub stream_beside : (draft : Draft) (row : List (List ℕ)) → IsStreamFine draft row → fault_beside Stream draft row ≡ None
stream_beside draft row h =
    by (is_half_told Stream row) (has_unknown_node draft.nodes Stream row) (is_among draft.streams (name_field row)) (has_bad_list draft.nodes Stream row) (leads_to_itself row)
    h.whole h.known h.new h.good h.apart
  where
    by : (a b c d e : Bool) → a ≡ false → b ≡ false → c ≡ false → d ≡ false → e ≡ false
        → (if a then Some RowFault.Number else if b then Some Unknown else if c then Some Duplicate else if d then Some Shape else if e then Some Count else None) ≡ None
    by a b c d e is_a is_b is_c is_d is_e = rw (is_a, is_b, is_c, is_d, is_e) refl
