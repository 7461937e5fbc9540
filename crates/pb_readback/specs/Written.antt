-- Statement. The rows of a study read back as its stages, and the other rows of a session are skipped.
use Rattle.std.specs.Prelude.{◌≡◌, ℕ, ◌+◌, ◌≤◌, List, [], ◌∷◌, map, length, All, AllPairs, Contains, None, Some, slice_get, slice_index_or, true, false, codes}
use Rattle.std.specs.List.{list_all}
use Rattle.pb_limits.specs.Limits.{most_gap, most_rounds, most_sweeps}
use Rattle.pb_rows.specs.declared.name.Names.{Names}
use Rattle.pb_rows.specs.Name.{is_name, same_name}
use Rattle.pb_rows.specs.Records.{records_of}
use Rattle.pb_rows.specs.Written.{begins_with_word}
use Rattle.pb_study.specs.declared.results.Options.{Options}
use Rattle.pb_study.specs.declared.results.Stage.{Stage}
use Rattle.pb_study.specs.declared.results.StreamResult.{StreamResult}
use Rattle.pb_study.specs.declared.results.Study.{Study}
use Rattle.pb_graph.specs.ProcessGraph.{IsProcessGraph}
use Rattle.pb_form.specs.Value.{Word}
use Rattle.pb_blocks.specs.Kinds.{passed_kinds}
use Rattle.pb_report.specs.declared.form.Form.TheVariants.{Csv}
use Rattle.pb_report.specs.Form.{text_in}
use Rattle.pb_report.specs.Names.{IsNamedStudy}
use Rattle.pb_report.specs.Row.{OutputRow, fields_of}
use Rattle.pb_report.specs.Study.{study_rows}
use Rattle.pb_readback.specs.declared.block.Block.{Block}
use Rattle.pb_readback.specs.Next.{AreBlocks}

-- rows as the records that `csv` reads back
abbrev pub records_in : List OutputRow → List (List (List ℕ))
records_in rows = map fields_of rows

-- no two of these names are the same
abbrev pub AreAllDifferent : List (List ℕ) → Type 0
AreAllDifferent names = AllPairs (λ one other. same_name one other ≡ false) names

-- names of nodes and of streams, none of which occurs twice; the first node is the environment
pub record AreBlockNames (names : Names) : Type 0 where
  pub node_forms : list_all is_name names.nodes ≡ true
  pub stream_forms : list_all is_name names.streams ≡ true
  pub nodes_differ : AreAllDifferent names.nodes
  pub streams_differ : AreAllDifferent names.streams
  pub env : slice_index_or names.nodes 0 [] ≡ codes "env"

-- the options of a study are within the limits
pub record AreOptionsWithin (options : Options) : Type 0 where
  pub some_gap : 1 ≤ options.gap
  pub greatest_gap : options.gap ≤ most_gap
  pub greatest_sweeps : options.sweeps ≤ most_sweeps

-- no stream has least bounds without bounds: its row would leave them out
abbrev pub HasBoundsForLeast : StreamResult → Type 0
HasBoundsForLeast result = result.bounds ≡ None → result.least ≡ None

-- a study that can be written as a report of a period with these names, each of whose graphs is within its limits
pub record IsReportable (names : Names) (period : List ℕ) (options : Options) (study : Study) : Type 0 where
  pub named : IsNamedStudy names study
  pub graphs : All (λ (stage : Stage). IsProcessGraph stage.graph) study.stages
  pub least : All (λ (stage : Stage). All HasBoundsForLeast stage.streams) study.stages
  pub all_names : AreBlockNames names
  pub name : is_name period ≡ true
  pub asked : AreOptionsWithin options
  pub greatest_round : length study.stages ≤ most_rounds + 1

-- a stage as a block of a report
abbrev pub block_with : Names → List ℕ → Options → ℕ → Stage → Block
block_with names period options round stage = record {
  period = period;
  round = round;
  gap = options.gap;
  sweeps = options.sweeps;
  names = names;
  stage = stage;
}

-- stages as blocks, of this round and the rounds after it
abbrev pub blocks_from : Names → List ℕ → Options → ℕ → List Stage → List Block
blocks_from names period options round [] = []
blocks_from names period options round (stage ∷ stages) =
    block_with names period options round stage ∷ blocks_from names period options (round + 1) stages

-- The rows of a study read back as its stages, in order.
abbrev pub StudyRowsLaw : Type 0
StudyRowsLaw =
    (names : Names) (period : List ℕ) (options : Options) (study : Study) → IsReportable names period options study
    → AreBlocks (records_in (study_rows names period options study)) (blocks_from names period options 0 study.stages)

-- the first value of a row is the word of its kind
abbrev pub HasKindWord : OutputRow → Type 0
HasKindWord row = slice_get row.values 0 ≡ Some (Word 0)

-- a row of a kind that is skipped between blocks, with the kind's word
pub record IsPassedRow (row : OutputRow) : Type 0 where
  pub kind : Contains passed_kinds row.kind
  pub word : HasKindWord row

-- All rows of the kinds that are skipped between blocks are skipped, whatever their other values are.
abbrev pub PassedRowsLaw : Type 0
PassedRowsLaw = (rows : List OutputRow) → All IsPassedRow rows → AreBlocks (records_in rows) []

-- rows that begin with a word, so that they read back from their text as they were written
abbrev pub BeginWithWords : List OutputRow → Type 0
BeginWithWords rows = list_all begins_with_word (records_in rows) ≡ true

-- Rows of any kinds begin with a word, and so do the rows of a study.
pub record RowWordsLaw : Type 0 where
  pub rows : (rows : List OutputRow) → All HasKindWord rows → BeginWithWords rows
  pub studies : (names : Names) (period : List ℕ) (options : Options) (study : Study)
      → BeginWithWords (study_rows names period options study)

-- Rows that begin with a word read back from their text in CSV.
abbrev pub RowTextLaw : Type 0
RowTextLaw = (rows : List OutputRow) → BeginWithWords rows → records_of (text_in Csv rows) ≡ records_in rows

-- The text of a study in CSV reads back as its stages, in order.
abbrev pub StudyTextLaw : Type 0
StudyTextLaw =
    (names : Names) (period : List ℕ) (options : Options) (study : Study) → IsReportable names period options study
    → AreBlocks (records_of (text_in Csv (study_rows names period options study))) (blocks_from names period options 0 study.stages)
