-- Statement. The row that sums up the study of a made session.
use Rattle.std.specs.Prelude.{ℕ, ◌==◌, pos, List, [], ◌∷◌}
use Rattle.std.specs.List.{count_by}
use Rattle.pb_form.specs.Value.{Number, Word}
use Rattle.pb_form.specs.declared.output.OutputKind.TheVariants as kind
use Rattle.pb_graph.specs.declared.records.Class.{Class}
use Rattle.pb_graph.specs.declared.records.Class.TheVariants.{Observable, Unobservable, Redundant, Nonredundant}
use Rattle.pb_study.specs.declared.results.StreamResult.{StreamResult}
use Rattle.pb_study.specs.declared.results.Stage.{Stage}
use Rattle.pb_study.specs.WellFormed.{sweeps_of}
use Rattle.pb_choices.specs.Places.{class_place, gap_met, truth_place}
use Rattle.pb_report.specs.Row.{OutputRow, row_of, value_or_none}

-- how many streams are of a class
abbrev pub class_count : Class → List StreamResult → ℕ
class_count class results = count_by (λ result. class_place result.classified.class == class_place class) results

-- the whole row: the number that the session was made from, how many streams were asked for and how many rows it has; how many
-- streams are of each class; and how the stage was solved, as in its block
abbrev pub summary_row : ℕ → ℕ → ℕ → Stage → OutputRow
summary_row made_number streams rows stage =
    row_of kind.Summary
    (Number (pos made_number) ∷ Number (pos streams) ∷ Number (pos rows) ∷ Number (pos (class_count Observable stage.streams))
    ∷ Number (pos (class_count Unobservable stage.streams)) ∷ Number (pos (class_count Redundant stage.streams))
    ∷ Number (pos (class_count Nonredundant stage.streams)) ∷ Number (pos stage.dof) ∷ Word (truth_place (gap_met stage.solved))
    ∷ Number (pos (sweeps_of stage.solved)) ∷ Number stage.low ∷ value_or_none Number stage.high ∷ [])
