-- Inside. A draft in progress, and what reading on has shown of the records.
use Rattle.std.specs.Prelude.{◌≡◌, ◌≢◌, ◌⊎◌, ◌≤◌, ◌+◌, ◌==◌, ℕ, pos, Bool, true, false, nat_lt, List, [], ◌∷◌, ◌++◌, length, map, Option, Some, None, slice_get}
use Rattle.std.specs.List.{list_all, list_any}
use Rattle.std.specs.Option.{option_map_or}
use Rattle.pb_form.specs.declared.output.OutputKind.{OutputKind}
use Rattle.pb_form.specs.declared.output.OutputKind.TheVariants.{Node, StreamBefore, Solved, Global, Nodal, Measure, End}
use Rattle.pb_form.specs.Value.{Value}
use Rattle.pb_rows.specs.RecordsLeft.{RecordsLeft}
use Rattle.pb_graph.specs.declared.records.Member.{Member}
use Rattle.pb_graph.specs.declared.records.Step.{Step}
use Rattle.pb_graph.specs.declared.records.Stream.{Stream}
use Rattle.pb_graph.specs.declared.records.Witness.{Witness}
use Rattle.pb_study.specs.declared.results.Solved.TheVariants.{Unconverged}
use Rattle.pb_study.specs.declared.results.StreamResult.{StreamResult}
use Rattle.pb_study.specs.declared.results.Tests.{Tests}
use Rattle.pb_graph.specs.ProcessGraph.{IsStream, IsWithinLimits}
use Rattle.pb_blocks.specs.declared.fault.RowFault.{RowFault}
use Rattle.pb_blocks.specs.declared.fault.RowFault.TheVariants.{Unknown, Ended}
use Rattle.pb_blocks.specs.declared.rows.Solution.{Solution}
use Rattle.pb_blocks.specs.declared.rows.StreamRow.{StreamRow}
use Rattle.pb_blocks.specs.Beside.{opening_fault}
use Rattle.pb_blocks.specs.Counts.{IsHeading}
use Rattle.pb_blocks.specs.Kinds.{is_passed_over}
use Rattle.pb_blocks.specs.Lists.{is_part, items}
use Rattle.pb_blocks.specs.Results.{result_of}
use Rattle.pb_blocks.specs.Values.{said_global}
use Rattle.pb_readback.specs.declared.block.Block.{Block}
use Rattle.pb_readback.specs.declared.draft.Draft.{Draft}
use Rattle.pb_readback.specs.declared.reading.ReadRefused.{ReadRefused}
use Rattle.pb_readback.specs.declared.reading.ReadRefused.TheVariants.{At, NoMemory}
use Rattle.pb_readback.specs.Blocks.{block_of}
use Rattle.pb_readback.specs.Drafts.{added, with_rows}
use Rattle.pb_readback.specs.Faults.{fault_behind, first_unknown}
use Rattle.pb_readback.specs.Next.{AreCounted, ArePassedOver, AreSound, IsFault, IsWithinGiven, opened_draft}

-- the solution before its row has come
abbrev pub no_solution : Solution
no_solution = record { solved = Unconverged 0; g = 0; h = 0; dof = 0; low = pos 0; high = None }

-- the global test, and no other test yet
abbrev pub tests_begun : List Value → Tests
tests_begun values = record { global = said_global values; nodal = []; measure = [] }

-- the draft with one more node
abbrev pub with_node : List (List ℕ) → Draft → Draft
with_node row draft = added Node draft row

-- the draft after a row of a kind
abbrev pub told_with : OutputKind → Draft → List (List ℕ) → Draft
told_with kind draft row = record (added kind draft row) { last = kind }

-- the fault after the rows of an incomplete block: the fault of the next row, or that there is no next row
abbrev pub fault_next : Draft → List (List (List ℕ)) → Option RowFault
fault_next draft rest = option_map_or (fault_behind draft) (slice_get rest 0) (Some Ended)

-- not all nodes have come; all of them have, but not all streams; or all of both have
abbrev pub AwaitsNodes : Draft → Type 0
AwaitsNodes draft = nat_lt (length draft.nodes) draft.heading.nodes ≡ true

abbrev pub AwaitsStreams : Draft → Type 0
AwaitsStreams draft =
    (nat_lt (length draft.nodes) draft.heading.nodes ≡ false) × (nat_lt (length draft.streams) draft.heading.streams ≡ true)

abbrev pub HasAll : Draft → Type 0
HasAll draft =
    (nat_lt (length draft.nodes) draft.heading.nodes ≡ false) × (nat_lt (length draft.streams) draft.heading.streams ≡ false)

-- a row of this kind may come next
abbrev pub MayCome : Draft → OutputKind → Type 0
MayCome draft Node = AwaitsNodes draft
MayCome draft OutputKind.Stream = AwaitsStreams draft
MayCome draft StreamBefore = AwaitsStreams draft
MayCome draft Solved = HasAll draft × (draft.last ≢ End)
MayCome draft Global = HasAll draft × (draft.last ≢ End)
MayCome draft Nodal = HasAll draft × (draft.last ≢ End)
MayCome draft Measure = HasAll draft × (draft.last ≢ End)
MayCome draft End = HasAll draft × (draft.last ≢ End)
MayCome draft kind = ⊥

-- the row of a stream, in either form
abbrev pub is_stream_kind : OutputKind → Bool
is_stream_kind OutputKind.Stream = true
is_stream_kind StreamBefore = true
is_stream_kind kind = false

-- a draft has as many nodes and streams as its heading says, or fewer
pub record IsUnderWay (draft : Draft) : Type 0 where
  pub heading : IsHeading draft.heading
  pub graph : draft.graph.nodes ≡ draft.heading.nodes
  pub nodes : length draft.nodes ≤ draft.heading.nodes
  pub streams : length draft.streams ≤ draft.heading.streams
  pub each_stream : length draft.graph.streams ≡ length draft.streams
  pub each_row : length draft.rows ≡ length draft.streams

-- the parts of the streams so far are signs with names
abbrev pub has_parts : StreamRow → Bool
has_parts row = list_all is_part (items row.parts)

abbrev pub HaveParts : Draft → Type 0
HaveParts draft = list_all has_parts draft.rows ≡ true

-- a stream of the graph of a draft
pub record IsStreamOf (draft : Draft) (stream : Stream) : Type 0 where
  pub joins : IsStream draft.graph.nodes stream
  pub limits : IsWithinLimits stream

-- a certificate that has the stream of this number
abbrev pub has_stream : ℕ → Witness → Bool
has_stream stream (Witness.Cut side members) = list_any (λ (m : Member). m.stream == stream) members
has_stream stream (Witness.Cycle steps) = list_any (λ (t : Step). t.stream == stream) steps

-- a result whose certificate has the stream of this number
abbrev pub is_on_stream : ℕ → StreamResult → Bool
is_on_stream stream found = has_stream stream found.classified.witness

-- once all streams are read, these are the results of their rows
abbrev pub KeepsResults : Draft → List StreamResult → Type 0
KeepsResults draft results =
    length draft.streams ≡ draft.heading.streams → results ≡ map (result_of draft.streams) draft.rows

-- the rows of a whole block: the row that opens it, and the rows after it up to the end
pub record IsBlock (first : List (List ℕ)) (rows : List (List (List ℕ))) (block : Block) : Type 0 where
  pub opens : opening_fault first ≡ None
  pub sound : AreSound (opened_draft first) rows
  pub known : first_unknown (with_rows (opened_draft first) rows) ≡ None
  pub ends : (with_rows (opened_draft first) rows).last ≡ End
  pub value : block ≡ block_of (with_rows (opened_draft first) rows)

-- after rows that are skipped comes another row, or none
abbrev pub Skips : List (List (List ℕ)) → List (List (List ℕ)) → Option (List (List ℕ)) → Type 0
Skips all rest None = ArePassedOver all × (rest ≡ [])
Skips all rest (Some row) =
    (passed : List (List (List ℕ))) × (all ≡ passed ++ row ∷ rest) × ArePassedOver passed × (is_passed_over row ≡ false)

-- the rows read so far after a first one, which have given this draft, and the rows that are left
pub record IsReadTo (start : Draft) (all : List (List (List ℕ))) (draft : Draft) (left : List (List (List ℕ))) : Type 0 where
  pub rows : List (List (List ℕ))
  pub split : all ≡ rows ++ left
  pub sound : AreSound start rows
  pub told : draft ≡ with_rows start rows
  pub known : first_unknown draft ≡ None

-- a block's rows after a first one, up to its end
pub record IsReadWhole (start : Draft) (all rest : List (List (List ℕ))) (block : Block) : Type 0 where
  pub rows : List (List (List ℕ))
  pub split : all ≡ rows ++ rest
  pub sound : AreSound start rows
  pub known : first_unknown (with_rows start rows) ≡ None
  pub ends : (with_rows start rows).last ≡ End
  pub value : block ≡ block_of (with_rows start rows)

-- a block that breaks off after its first row, which has the number `opened`
pub record IsBroken (start : Draft) (all : List (List (List ℕ))) (opened_draft number : ℕ) (fault : RowFault)
    (left : List (List (List ℕ))) : Type 0 where
  pub rows : List (List (List ℕ))
  pub rest : List (List (List ℕ))
  pub within : ℕ
  pub split : all ≡ rows ++ rest
  pub sound : AreSound start rows
  pub cause : IsFault (with_rows start rows) (length rows) rest within fault left
  pub place : number + 1 ≡ opened_draft + within

-- a refusal if no record is left
abbrev pub Ends : RecordsLeft → RecordsLeft → ReadRefused → Type 0
Ends old new (At number fault) = (old.left ≡ []) × (new ≡ old) × (number ≡ old.taken + 1) × (fault ≡ Ended)
Ends old new NoMemory = IsWithinGiven old new

-- a refusal of a row after a draft; the row has this number
abbrev pub RefusesRow : Draft → List (List ℕ) → ℕ → ReadRefused → Type 0
RefusesRow draft row number (At at fault) = (fault_behind draft row ≡ Some fault) × (at ≡ number)
RefusesRow draft row number NoMemory = Unit {0}

-- a refusal of a stream of a draft for its parts; the block's first row has this number
abbrev pub RefusesPart : Draft → ℕ → ReadRefused → Type 0
RefusesPart draft opened_draft (At number fault) =
    (stream : ℕ) × (first_unknown draft ≡ Some stream) × (number ≡ opened_draft + draft.heading.nodes + stream + 1) × (fault ≡ Unknown)
RefusesPart draft opened_draft NoMemory = Unit {0}

-- what a refusal after a first row says; the first row is the last one taken before
abbrev pub Breaks : Draft → RecordsLeft → RecordsLeft → ReadRefused → Type 0
Breaks start old new (At number fault) = IsBroken start old.left old.taken number fault new.left × AreCounted old new
Breaks start old new NoMemory = IsWithinGiven old new

-- a block whose first row is this one
abbrev pub IsReadFrom : List (List ℕ) → List (List (List ℕ)) → List (List (List ℕ)) → Block → Type 0
IsReadFrom first all rest block = (opening_fault first ≡ None) × IsReadWhole (opened_draft first) all rest block

-- what a refusal says about a first row, the last one taken before, and about the rows after it
abbrev pub BreaksFrom : List (List ℕ) → RecordsLeft → RecordsLeft → ReadRefused → Type 0
BreaksFrom first old new (At number fault) =
    ((opening_fault first ≡ Some fault) × (number ≡ old.taken) × (new ≡ old))
    ⊎ ((opening_fault first ≡ None) × IsBroken (opened_draft first) old.left old.taken number fault new.left × AreCounted old new)
BreaksFrom first old new NoMemory = IsWithinGiven old new
