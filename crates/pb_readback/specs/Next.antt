-- Statement. What comes next in records: a block, the first row that can't be read, or neither.
use Rattle.std.specs.Prelude.{◌≡◌, ◌≢◌, ◌⊎◌, ℕ, ◌+◌, ◌≤◌, true, false, List, [], ◌∷◌, ◌++◌, length, drop, Option, Some, None, slice_get}
use Rattle.std.specs.List.{list_all}
use Rattle.std.specs.Option.{option_map_or}
use Rattle.pb_form.specs.declared.output.OutputKind.TheVariants.{End, Report}
use Rattle.pb_rows.specs.RecordsLeft.{RecordsLeft}
use Rattle.pb_blocks.specs.declared.fault.RowFault.{RowFault}
use Rattle.pb_blocks.specs.declared.fault.RowFault.TheVariants.{Unknown, Ended}
use Rattle.pb_blocks.specs.Beside.{opening_fault}
use Rattle.pb_blocks.specs.Kinds.{is_passed_over}
use Rattle.pb_blocks.specs.Values.{said_heading, values_in}
use Rattle.pb_readback.specs.declared.block.Block.{Block}
use Rattle.pb_readback.specs.declared.draft.Draft.{Draft}
use Rattle.pb_readback.specs.declared.reading.ReadRefused.{ReadRefused}
use Rattle.pb_readback.specs.declared.reading.ReadRefused.TheVariants.{At, NoMemory}
use Rattle.pb_readback.specs.Drafts.{draft_of, draft_with_row, with_rows}
use Rattle.pb_readback.specs.Faults.{fault_behind, first_unknown}
use Rattle.pb_readback.specs.Blocks.{block_of}

-- what comes next: no block; a block, and the records after it; or the number of the first row that can't be read, with its fault,
-- and the records after the row that shows it
pub data Next : Type 0 where
  NoBlock : Next
  Found : Block → List (List (List ℕ)) → Next
  Refused : ℕ → RowFault → List (List (List ℕ)) → Next

-- rows that are skipped
abbrev pub ArePassedOver : List (List (List ℕ)) → Type 0
ArePassedOver rows = list_all is_passed_over rows ≡ true

-- None of these rows has a fault after the rows before it. No row is read after the last stream if a stream's parts name a stream
-- that the block doesn't have.
abbrev pub AreSound : Draft → List (List (List ℕ)) → Type 0
AreSound draft [] = Unit {0}
AreSound draft (row ∷ rows) =
    (first_unknown draft ≡ None) × (fault_behind draft row ≡ None) × AreSound (draft_with_row draft row) rows

-- what a row that opens a block says
abbrev pub opened_draft : List (List ℕ) → Draft
opened_draft row = draft_of (said_heading row (values_in Report row))

-- After the first row of a block and this many more rows, this is the number, counted within the block, of the first row that has a
-- fault: the row of the first stream whose parts name an unknown stream, once all streams are read; otherwise the next row,
-- before the end, or that there is no next row. These records are left: a row that has the fault itself is taken, and no row after it.
abbrev pub IsFault : Draft → ℕ → List (List (List ℕ)) → ℕ → RowFault → List (List (List ℕ)) → Type 0
IsFault draft rows rest number fault left =
    ((stream : ℕ) × (first_unknown draft ≡ Some stream) × (number ≡ draft.heading.nodes + stream + 2) × (fault ≡ Unknown)
    × (left ≡ rest))
    ⊎ ((first_unknown draft ≡ None) × (draft.last ≢ End)
    × (option_map_or (fault_behind draft) (slice_get rest 0) (Some Ended) ≡ Some fault) × (number ≡ rows + 2) × (left ≡ drop 1 rest))

-- a block comes next, after rows that are skipped: a row that opens it, and the rows after it up to the end; these records come
-- after the block
pub record IsFound (records : List (List (List ℕ))) (block : Block) (rest : List (List (List ℕ))) : Type 0 where
  pub passed : List (List (List ℕ))
  pub first : List (List ℕ)
  pub rows : List (List (List ℕ))
  pub split : records ≡ passed ++ first ∷ (rows ++ rest)
  pub skipped : ArePassedOver passed
  pub opens : opening_fault first ≡ None
  pub sound : AreSound (opened_draft first) rows
  pub known : first_unknown (with_rows (opened_draft first) rows) ≡ None
  pub ends : (with_rows (opened_draft first) rows).last ≡ End
  pub value : block ≡ block_of (with_rows (opened_draft first) rows)

-- A first row that isn't skipped doesn't begin a block with the records after it: it doesn't open a block, or a row after it
-- can't be read. This is the number of the first row that has a fault, counted from the first row, and these records are left.
abbrev pub IsNoBlock : List (List ℕ) → List (List (List ℕ)) → ℕ → RowFault → List (List (List ℕ)) → Type 0
IsNoBlock first behind number fault left =
    ((opening_fault first ≡ Some fault) × (number ≡ 1) × (left ≡ behind))
    ⊎ ((opening_fault first ≡ None) × (rows : List (List (List ℕ))) × (rest : List (List (List ℕ))) × (behind ≡ rows ++ rest)
    × AreSound (opened_draft first) rows × IsFault (with_rows (opened_draft first) rows) (length rows) rest number fault left)

-- after rows that are skipped comes another row, and no block begins with it
pub record IsRefused (at : ℕ) (records : List (List (List ℕ))) (number : ℕ) (fault : RowFault) (left : List (List (List ℕ))) : Type 0 where
  pub passed : List (List (List ℕ))
  pub first : List (List ℕ)
  pub behind : List (List (List ℕ))
  pub within : ℕ
  pub split : records ≡ passed ++ first ∷ behind
  pub skipped : ArePassedOver passed
  pub other : is_passed_over first ≡ false
  pub cause : IsNoBlock first behind within fault left
  pub place : number ≡ at + length passed + within

-- What comes next in the records, after this many records before them.
abbrev pub IsNext : ℕ → List (List (List ℕ)) → Next → Type 0
IsNext at records NoBlock = ArePassedOver records
IsNext at records (Found block rest) = IsFound records block rest
IsNext at records (Refused number fault left) = IsRefused at records number fault left

-- The records are these blocks in order, and rows that are skipped between, before and after them.
abbrev pub AreBlocks : List (List (List ℕ)) → List Block → Type 0
AreBlocks records [] = ArePassedOver records
AreBlocks records (block ∷ blocks) = (rest : List (List (List ℕ))) × IsFound records block rest × AreBlocks rest blocks

-- what comes next, if a block or none was read
abbrev pub next_by : Option Block → List (List (List ℕ)) → Next
next_by None rest = NoBlock
next_by (Some block) rest = Found block rest

-- the records that were taken are counted, and no others: each record that isn't left counts
abbrev pub AreCounted : RecordsLeft → RecordsLeft → Type 0
AreCounted old new = new.taken + length new.left ≡ old.taken + length old.left

-- every record that counts as taken was given, and none is given again
abbrev pub IsWithinGiven : RecordsLeft → RecordsLeft → Type 0
IsWithinGiven old new = (old.taken ≤ new.taken) × (new.taken + length new.left ≤ old.taken + length old.left)

-- if a row can't be read: what comes next, and that no record after it was taken; out of memory: that every record that counts
-- was given
abbrev pub IsReadRefused : RecordsLeft → RecordsLeft → ReadRefused → Type 0
IsReadRefused old new (At number fault) = IsNext old.taken old.left (Refused number fault new.left) × AreCounted old new
IsReadRefused old new NoMemory = IsWithinGiven old new
