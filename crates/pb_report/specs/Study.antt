-- Statement. The rows of a study: a block for each stage, between two blocks the row of the suspect that was taken, and after the
-- last block the row that says why no more were taken (serial elimination of gross errors: Narasimhan and Jordache).
use Rattle.std.specs.Prelude.{ℕ, ◌+◌, pos, List, [], ◌∷◌, ◌++◌, length}
use Rattle.std.specs.Option.{option_map, option_to_list}
use Rattle.pb_rows.specs.declared.name.Names.{Names}
use Rattle.pb_form.specs.Value.{Name, Number, Word}
use Rattle.pb_form.specs.declared.output.OutputKind.TheVariants as kind
use Rattle.pb_study.specs.declared.results.Options.{Options}
use Rattle.pb_study.specs.declared.results.Stage.{Stage}
use Rattle.pb_study.specs.declared.results.Taken.{Taken}
use Rattle.pb_study.specs.declared.results.Stop.{Stop}
use Rattle.pb_study.specs.declared.results.Study.{Study}
use Rattle.pb_report.specs.Block.{block_rows}
use Rattle.pb_report.specs.Names.{name_at}
use Rattle.pb_choices.specs.Places.{stop_place}
use Rattle.pb_report.specs.Row.{OutputRow, row_of}

-- the suspect taken before a round: the stream, and the low end of its drop
abbrev pub taken_row : Names → List ℕ → ℕ → Taken → OutputRow
taken_row names period round taken =
    row_of kind.Taken (Name period ∷ Number (pos round) ∷ Name (name_at names.streams taken.stream) ∷ Number taken.low ∷ [])

-- the rounds from this one on: each time the suspect, and the block of the stage without it
abbrev pub round_rows : Names → List ℕ → Options → ℕ → List Taken → List Stage → List OutputRow
round_rows names period options round (suspect ∷ taken) (stage ∷ stages) =
    (taken_row names period round suspect ∷ block_rows names period options round stage)
    ++ round_rows names period options (round + 1) taken stages
round_rows names period options round taken stages = []

-- the first block, which is round 0, and the rounds after it
abbrev pub stage_rows : Names → List ℕ → Options → List Taken → List Stage → List OutputRow
stage_rows names period options taken [] = []
stage_rows names period options taken (stage ∷ stages) =
    block_rows names period options 0 stage ++ round_rows names period options 1 taken stages

-- why the elimination stopped, and after how many rounds
abbrev pub stop_row : List ℕ → ℕ → Stop → OutputRow
stop_row period rounds reason = row_of kind.Stop (Name period ∷ Word (stop_place reason) ∷ Number (pos rounds) ∷ [])

-- the whole report; no reason to stop if no elimination was asked for
abbrev pub study_rows : Names → List ℕ → Options → Study → List OutputRow
study_rows names period options study =
    stage_rows names period options study.taken study.stages
    ++ option_to_list (option_map (stop_row period (length study.taken)) study.stop)
