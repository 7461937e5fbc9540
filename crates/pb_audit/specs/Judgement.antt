-- Statement. The judgement of a report by its own numbers, wherever it came from: what is found about each of its blocks, and the first row
-- that can't be read.
use Rattle.std.specs.Prelude.{◌≡◌, ℕ, ℤ, pos, ◌+◌, ◌-◌, Bool, true, false, List, [], ◌∷◌, ◌++◌, length, map}
use Rattle.std.specs.List.{list_any}
use Rattle.pb_rows.specs.declared.name.Names.{Names}
use Rattle.pb_form.specs.Value.{Value, Missing, Name, Number, Word}
use Rattle.pb_form.specs.declared.output.OutputKind.TheVariants as kind
use Rattle.pb_readback.specs.declared.block.Block.{Block}
use Rattle.pb_blocks.specs.declared.fault.RowFault.{RowFault}
use Rattle.pb_blocks.specs.Codes.{row_fault_code}
use Rattle.pb_readback.specs.Next.{Found, IsNext, NoBlock, Refused}
use Rattle.pb_check.specs.declared.faults.Place.{Place}
use Rattle.pb_check.specs.declared.faults.Place.TheVariants.{Node, Stream, Whole}
use Rattle.pb_check.specs.declared.faults.Test.{Test}
use Rattle.pb_check.specs.Laws.{IsSound}
use Rattle.pb_check.specs.Verdict.{IsFirstFault, IsPassed, test_code}
use Rattle.pb_report.specs.declared.form.Form.TheVariants.{Csv}
use Rattle.pb_report.specs.Form.{text_in}
use Rattle.pb_report.specs.Names.{name_at}
use Rattle.pb_report.specs.Row.{OutputRow, row_of}

-- What is found: a block that passes all tests; a block that fails one, with the place, what is stated there and what the rule gives;
-- or the number of a row that can't be read, with its fault.
pub data Finding : Type 0 where
  passed : Block → Finding
  failed : Block → Test → Place → ℤ → ℤ → Finding
  unreadable : ℕ → RowFault → Finding

-- a block passes all tests, at the gap and the sweeps that it was reported with
abbrev pub IsPassedBlock : Block → Type 0
IsPassedBlock block = IsPassed block.stage block.gap block.sweeps

-- What is found next in the records, which come after this many, and those that are judged after it: none, after a row that can't be
-- read. A block that passes is certified, wherever it came from, and its state is converged exactly when its gap is met.
abbrev pub Finds : ℕ → List (List (List ℕ)) → Finding → List (List (List ℕ)) → Type 0
Finds at records (passed block) behind =
    IsNext at records (Found block behind) × IsPassed block.stage block.gap block.sweeps × IsSound block.stage block.gap
Finds at records (failed block test place stated found) behind =
    IsNext at records (Found block behind)
    × IsFirstFault block.stage block.gap block.sweeps test place stated found
Finds at records (unreadable number fault) behind =
    ((left : List (List (List ℕ))) × IsNext at records (Refused number fault left)) × (behind ≡ [])

-- there is nothing more to be found: no block, and each record can be skipped
abbrev pub FindsNothing : ℕ → List (List (List ℕ)) → Type 0
FindsNothing at records = IsNext at records NoBlock

-- All that is found in the records, which come after this many, in order.
abbrev pub AreFindings : ℕ → List (List (List ℕ)) → List Finding → Type 0
AreFindings at records [] = IsNext at records NoBlock
AreFindings at records (finding ∷ findings) =
    (behind : List (List (List ℕ))) × Finds at records finding behind
    × AreFindings (at + (length records - length behind)) behind findings

-- the name of the node or the stream at a place; missing for the whole stage
abbrev pub place_name : Names → Place → Value
place_name names (Node node) = Name (name_at names.nodes node)
place_name names (Stream stream) = Name (name_at names.streams stream)
place_name names Whole = Missing

-- whether something is wrong: a block fails, or a row can't be read
abbrev pub is_wrong : Finding → Bool
is_wrong (passed block) = false
is_wrong finding = true

-- The row of a finding. Of a block that passes: its period and its round. Of a block that fails: these, the first test that it fails,
-- the place where it fails, what is stated there, and what the rule gives. Of a record that can't be read: its number, and why. Words of
-- tests and of faults are in the order of their codes, which begin at 1.
abbrev pub finding_row : Finding → OutputRow
finding_row (passed block) = row_of kind.Yes (Name block.period ∷ Number (pos block.round) ∷ [])
finding_row (failed block test place stated found) =
    row_of kind.No
    (Name block.period ∷ Number (pos block.round) ∷ Number (pos (test_code test)) ∷ Word (test_code test - 1)
    ∷ place_name block.names place ∷ Number stated ∷ Number found ∷ [])
finding_row (unreadable number fault) =
    row_of kind.Unreadable
    (Number (pos number) ∷ Number (pos (row_fault_code fault)) ∷ Word (row_fault_code fault - 1) ∷ [])

-- The judgement of records, and whether something is wrong: the rows of all that is found, as `csv` writes them.
pub record IsJudgement (wrong : Bool) (records : List (List (List ℕ))) (text : List ℕ) : Type 0 where
  pub findings : List Finding
  pub are : AreFindings 0 records findings
  pub wrong_is : wrong ≡ list_any is_wrong findings
  pub text_is : text ≡ text_in Csv (map finding_row findings)

-- The first rows of the judgement of records.
pub record IsJudgementPart (records : List (List (List ℕ))) (text : List ℕ) : Type 0 where
  pub front : List Finding
  pub rest : List Finding
  pub are : AreFindings 0 records (front ++ rest)
  pub text_is : text ≡ text_in Csv (map finding_row front)
